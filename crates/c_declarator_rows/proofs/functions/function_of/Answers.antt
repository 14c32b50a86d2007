use Rattle.std.proofs.Common.{◌+◌, ◌∷◌, [], ◌++◌, ◌<◌, ◌≤◌, length, arith, refl, subst, sym}
use Rattle.std.specs.Prelude.{Ok}
use Rattle.c_syntax.specs.declared.kind.SynKind.TheVariants as kind
use Rattle.c_typing.specs.Types.{types_of}
use Rattle.c_typing.specs.Places.{other_kids}
use Rattle.c_typing.specs.Judgements.{means, of_function, steps, waits}
use Rattle.c_type_ids.specs.Ids.{NamesAll}
use Rattle.c_type_ids.proofs.TableLaws.{grows_same}
use Rattle.c_judgements.specs.declared.judged.Judged.TheVariants as judged
use Rattle.c_meanings.specs.Meanings.{judged_to, kid_in, node_in}
use Rattle.c_meanings.proofs.MeaningLaws.{its_number, kids_of}
use Rattle.c_declarator_rows.specs.Parameters.{types_at}
use Rattle.c_declarator_rows.proofs.FunctionRowLaws.{function_made, function_untyped, function_waits, typed, untyped}
use Rattle.c_declarator_rows.proofs.RowLaws.{row_by, still_row}
use Rattle.c_declarator_rows.proofs.functions.function_of.Goals as goal

pub returns-then-len-count : goal.returns-then-len-count
returns-then-len-count c =
    let table = c.args.nodes.now in
    let n = c.args.node in
    let m = c.args.meanings.now in
    let less : length c.args.takes < c.args.count = omega (arith, c.len.ensures, c.if-len-count.true) in
    still_row table n 0 m (Ok judged.Waits) waits c.requires.ready c.requires.within (function_untyped table n c.requires.kind c.requires.allowed (untyped table n m.types c.args.takes c.args.count c.requires.count c.requires.named less)) refl
    (refl, tt, refl)

pub take_steps-requires-clause-kids : goal.take_steps-requires-clause-kids
take_steps-requires-clause-kids c = kids_of c.args.nodes.now c.args.node 0 c.args.meanings.now c.requires.ready c.requires.within kind.Takes c.requires.kind

pub returns-in-Some : goal.returns-in-Some
returns-in-Some c =
    let table = c.args.nodes.now in
    let n = c.args.node in
    let old = c.args.meanings.now in
    let mid = c.take_steps.new.self in
    let own = its_number table n 0 old c.requires.ready c.requires.within in
    let least : c.args.count ≤ length c.args.takes = omega (arith, c.len.ensures, c.if-len-count.false) in
    let ts = types_of (types_at (judged_to table n) (other_kids (node_in table n))) in
    let (rs, e, are) = (c.in-Some.ensures {u = tt}).is in
    row_by table n (kid_in table n 0 + 1) old mid mid c.with_step.result (means (steps (rs ++ record { node = n; step = of_function ts } ∷ []))) c.take_steps.ensures.ready c.requires.within c.take_steps.ensures.left refl (grows_same mid.types mid.types refl)
    (function_made table n c.requires.kind c.requires.allowed c.requires.part own rs (types_at (judged_to table n) (other_kids (node_in table n))) e (typed table n old.types c.args.takes c.args.count c.requires.count c.requires.named least)) refl
    (c.with_step.ensures mid.types rs (of_function ts) are (subst (λ k. NamesAll k c.args.takes ts) (sym c.take_steps.ensures.types) c.requires.named))

pub returns-in-None : goal.returns-in-None
returns-in-None c =
    let table = c.args.nodes.now in
    let n = c.args.node in
    let mid = c.take_steps.new.self in
    row_by table n (kid_in table n 0 + 1) c.args.meanings.now mid mid (Ok judged.Waits) waits c.take_steps.ensures.ready c.requires.within c.take_steps.ensures.left refl (grows_same mid.types mid.types refl)
    (function_waits table n c.requires.kind c.requires.allowed ((c.in-None.ensures {u = tt}).is)) refl (refl, tt, refl)
