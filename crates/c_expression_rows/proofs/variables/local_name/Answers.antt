use Rattle.std.proofs.Common.{ap, ◌∙◌}
use Rattle.c_typing.specs.Types.{CType}
use Rattle.c_typing.specs.Judgements.{given, means}
use Rattle.c_typing.specs.Expressions.{expression, local_typing}
use Rattle.c_meanings.proofs.MeaningLaws.{its_number, nothing_taken, waiting_row}
use Rattle.c_expression_rows.proofs.RowLaws.{no_some}
use Rattle.c_expression_rows.proofs.ParenthesesLaws.{operand_row}
use Rattle.c_expression_rows.proofs.VariableLaws.{in_local, local_is, named_object, of_object, local_named}
use Rattle.c_expression_rows.proofs.variables.local_name.Goals as goal

pub local-requires : goal.local-requires
local-requires c =
    let m = c.args.meanings.now in
    let (t, e, is) = c.in-Some.ensures {u = tt} in
    let (name, denotes, same, owner, behind, numbered) = c.requires.denotes in
    in_local m.types c.in-Some.kind t c.args.number (of_object _ t (named_object c.args.nodes.now c.args.node c.requires.ready.derived name c.args.owner c.args.behind denotes (local_named name.entity same) owner behind) e) is

pub returns-in_default : goal.returns-in_default
returns-in_default c =
    let table = c.args.nodes.now in
    let n = c.args.node in
    let m = c.args.meanings.now in
    let own = its_number table n 0 m c.requires.ready c.requires.within in
    let (e, denotes, same, owner, behind, numbered) = c.requires.denotes in
    waiting_row table n 0 m c.requires.ready c.requires.within
    (local_is table n c.requires.kind own e c.args.owner c.args.behind c.args.number denotes same owner behind numbered ∙ ap (λ o. given o (λ (t : CType). means (expression (local_typing t c.args.number)))) (no_some _ c.type_of_name.result c.type_of_name.ensures c.in_default.not-Some))

pub returns : goal.returns
returns c =
    let table = c.args.nodes.now in
    let n = c.args.node in
    let m = c.args.meanings.now in
    let own = its_number table n 0 m c.requires.ready c.requires.within in
    let (e, denotes, same, owner, behind, numbered) = c.requires.denotes in
    let (t, there, is) = c.in-Some.ensures {u = tt} in
    operand_row table n 0 m m c.requires.ready c.requires.within (nothing_taken table n m) c.local.result (local_typing t c.args.number)
    (local_is table n c.requires.kind own e c.args.owner c.args.behind c.args.number denotes same owner behind numbered ∙ ap (λ o. given o (λ (t : CType). means (expression (local_typing t c.args.number)))) there) (c.local.ensures m.types t is)
