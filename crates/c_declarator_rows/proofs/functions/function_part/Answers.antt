use Rattle.std.proofs.Common.{◌≤◌, length, subst, sym, ◌∙◌}
use Rattle.std.specs.Prelude.{Err}
use Rattle.std.specs.List.{AllByRecursion}
use Rattle.c_types.specs.Tables.{IsThere}
use Rattle.c_typing.specs.Types.{types_of}
use Rattle.c_typing.specs.Places.{other_kids}
use Rattle.c_typing.specs.Judgements.{all_of, besides, steps_at}
use Rattle.c_type_ids.specs.Ids.{NamesAll}
use Rattle.c_answers.specs.Answers.{IsFirst}
use Rattle.c_declared_types.proofs.BuildLaws.{all_there}
use Rattle.c_meanings.specs.Meanings.{judged_to, kid_in, node_in}
use Rattle.c_meanings.proofs.MeaningLaws.{its_number}
use Rattle.c_declarator_rows.specs.Parameters.{parameter_faults, types_at}
use Rattle.c_declarator_rows.proofs.FunctionRowLaws.{faults_are, fits, function_by, function_is, function_layout, function_refused, its_parts, kids_counted}
use Rattle.c_declarator_rows.proofs.KidLengths.{parameter_lengths}
use Rattle.c_declarator_rows.proofs.RowLaws.{still_row, within_nodes}
use Rattle.c_declarator_rows.proofs.functions.function_part.Goals as goal

pub check-requires-clause-there : goal.check-requires-clause-there
check-requires-clause-there c =
    let table = c.args.nodes.now in
    let n = c.args.node in
    let m = c.args.meanings.now in
    let js = judged_to table n in
    let inside = within_nodes table n 0 m c.requires.ready c.requires.within in
    let have = parameter_lengths table n c.requires.ready.derived inside c.requires.kind in
    let named = c.in_ok-takes.ensures js c.requires.ready.judged have in
    subst (AllByRecursion (IsThere m.types.table)) (sym c.as_slice.ensures) (all_there m.types c.in_ok-takes.takes (types_of (types_at js (other_kids (node_in table n)))) named)

pub check-requires-clause-count : goal.check-requires-clause-count
check-requires-clause-count c =
    let table = c.args.nodes.now in
    let n = c.args.node in
    let m = c.args.meanings.now in
    let js = judged_to table n in
    let inside = within_nodes table n 0 m c.requires.ready c.requires.within in
    let have = parameter_lengths table n c.requires.ready.derived inside c.requires.kind in
    let named = c.in_ok-takes.ensures js c.requires.ready.judged have in
    let kids = c.other_kids-count.result.now in
    subst (λ ids. length ids ≤ length kids) (sym c.as_slice.ensures) (fits table n m.types c.in_ok-takes.takes (length kids) (kids_counted table n kids c.other_kids-count.ensures.are) named)

pub function_of-requires-clause-named : goal.function_of-requires-clause-named
function_of-requires-clause-named c =
    let table = c.args.nodes.now in
    let n = c.args.node in
    let m = c.args.meanings.now in
    let js = judged_to table n in
    let inside = within_nodes table n 0 m c.requires.ready c.requires.within in
    let have = parameter_lengths table n c.requires.ready.derived inside c.requires.kind in
    c.in_ok-takes.ensures js c.requires.ready.judged have

pub function_of-requires-clause-allowed : goal.function_of-requires-clause-allowed
function_of-requires-clause-allowed c =
    let table = c.args.nodes.now in
    let n = c.args.node in
    let m = c.args.meanings.now in
    let js = judged_to table n in
    let inside = within_nodes table n 0 m c.requires.ready c.requires.within in
    let have = parameter_lengths table n c.requires.ready.derived inside c.requires.kind in
    let named = c.in_ok-takes.ensures js c.requires.ready.judged have in
    let kids = c.other_kids-count.result.now in
    let ts = types_at js (other_kids (node_in table n)) in
    let (none, done) = c.in-Ok.ensures {u = tt} ts (subst (λ ids. NamesAll m.types ids (types_of ts)) (sym c.as_slice.ensures) named) in
    sym (faults_are table n m.types c.in_ok-takes.takes (length kids) (kids_counted table n kids c.other_kids-count.ensures.are) named (its_number table n 0 m c.requires.ready c.requires.within)) ∙ none

pub returns-in-Err : goal.returns-in-Err
returns-in-Err c =
    let table = c.args.nodes.now in
    let n = c.args.node in
    let m = c.args.meanings.now in
    let js = judged_to table n in
    let inside = within_nodes table n 0 m c.requires.ready c.requires.within in
    let have = parameter_lengths table n c.requires.ready.derived inside c.requires.kind in
    let named = c.in_ok-takes.ensures js c.requires.ready.judged have in
    let kids = c.other_kids-count.result.now in
    let ts = types_at js (other_kids (node_in table n)) in
    let first = c.in-Err.ensures {u = tt} ts (subst (λ ids. NamesAll m.types ids (types_of ts)) (sym c.as_slice.ensures) named) in
    let same = faults_are table n m.types c.in_ok-takes.takes (length kids) (kids_counted table n kids c.other_kids-count.ensures.are) named (its_number table n 0 m c.requires.ready c.requires.within) in
    still_row table n 0 m (Err c.in-Err.refusal) (besides (parameter_faults table n) (function_by table n (steps_at js (kid_in table n 0)) (all_of (its_parts table n)))) c.requires.ready c.requires.within (function_is table n c.requires.kind)
    (function_layout table n c.requires.part (parameter_faults table n) (steps_at js (kid_in table n 0)) (all_of (its_parts table n)))
    (function_refused table n m.types c.in-Err.refusal (subst (IsFirst c.in-Err.refusal) same first))
