use Rattle.std.proofs.Common.{ap, refl, subst, ◌∙◌}
use Rattle.c_typing.specs.Judgements.{given}
use Rattle.c_type_ids.proofs.TableLaws.{grows_same}
use Rattle.c_values.specs.Typings.{callee_of}
use Rattle.c_answers.specs.Answers.{Answers, Expresses}
use Rattle.c_meanings.proofs.MeaningLaws.{expressed_row, its_number, nothing_taken, waiting_row}
use Rattle.c_expression_rows.proofs.RowLaws.{no_some}
use Rattle.c_expression_rows.proofs.NameRowLaws.{function_by, function_is, function_of}
use Rattle.c_expression_rows.proofs.names.function_name.Goals as goal

pub returns-in_default : goal.returns-in_default
returns-in_default c =
    let table = c.args.nodes.now in
    let n = c.args.node in
    let m = c.args.meanings.now in
    let own = its_number table n 0 m c.requires.ready c.requires.within in
    let (e, denotes, same, owner, behind, callee) = c.requires.denotes in
    waiting_row table n 0 m c.requires.ready c.requires.within
    (function_is table n c.requires.kind own e c.args.owner c.args.behind (callee_of c.args.callee) denotes same owner behind callee
    ∙ ap (λ o. given o (function_of table n c.requires.kind own (callee_of c.args.callee))) (no_some _ c.type_of_name.result c.type_of_name.ensures c.in_default.not-Some))

pub function-requires : goal.function-requires
function-requires c = let (t, e, is) = c.in-Some.ensures {u = tt} in (t, is)

pub returns : goal.returns
returns c =
    let table = c.args.nodes.now in
    let n = c.args.node in
    let m = c.args.meanings.now in
    let own = its_number table n 0 m c.requires.ready c.requires.within in
    let (e, denotes, same, owner, behind, callee) = c.requires.denotes in
    let (t, there, is) = c.in-Some.ensures {u = tt} in
    expressed_row table n 0 m m m c.expressed.result c.requires.ready c.requires.within (nothing_taken table n m) refl (grows_same m.types m.types refl) 0 c.function.result (function_of table n c.requires.kind own (callee_of c.args.callee) t)
    c.expressed.ensures
    (function_is table n c.requires.kind own e c.args.owner c.args.behind (callee_of c.args.callee) denotes same owner behind callee
    ∙ ap (λ o. given o (function_of table n c.requires.kind own (callee_of c.args.callee))) there)
    (subst (λ b. Answers (Expresses m.types 0) c.function.result (function_by table n c.requires.kind own (callee_of c.args.callee) b t)) c.requires.called (c.function.ensures t (callee_of c.args.callee) is refl))
