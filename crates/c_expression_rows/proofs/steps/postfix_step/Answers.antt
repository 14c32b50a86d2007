use Rattle.std.proofs.Common.{◌+◌, ap, refl, sym, ◌∙◌}
use Rattle.std.specs.Prelude.{is_some}
use Rattle.c_syntax.specs.declared.kind.SynKind.TheVariants as kind
use Rattle.c_syntax.specs.declared.syntax.SynNode.{SynNode}
use Rattle.c_typing.specs.Expressions.{hidden_for, postfix_step}
use Rattle.c_names.specs.Denoted.{places_in}
use Rattle.c_meanings.specs.declared.meanings.Meanings.{Meanings}
use Rattle.c_meanings.specs.Meanings.{judged_to, kid_in, node_in}
use Rattle.c_meanings.proofs.MeaningLaws.{expressed_row, its_number, kids_of, no_operand, operand_seen, waiting_row}
use Rattle.c_expression_rows.proofs.RowLaws.{with_one, without_one}
use Rattle.c_expression_rows.proofs.StepLaws.{postfix_is}
use Rattle.c_expression_rows.proofs.steps.postfix_step.Goals as goal

pub operand_at-requires-clause-kids : goal.operand_at-requires-clause-kids
operand_at-requires-clause-kids c = kids_of c.args.nodes.now c.args.node 0 c.args.meanings.now c.requires.ready c.requires.within kind.Post c.requires.kind

pub take_operand-operand-requires-clause-kids : goal.take_operand-operand-requires-clause-kids
take_operand-operand-requires-clause-kids c = kids_of c.args.nodes.now c.args.node 0 c.args.meanings.now c.requires.ready c.requires.within kind.Post c.requires.kind

pub returns-then-is_none : goal.returns-then-is_none
returns-then-is_none c =
    let table = c.args.nodes.now in
    let n = c.args.node in
    waiting_row table n 0 c.args.meanings.now c.requires.ready c.requires.within
    (postfix_is table n c.requires.kind ∙ without_one table n _ (ap is_some (no_operand _ c.operand_at.result c.operand_at.ensures (c.if-is_none.ensures {u = tt}))))

pub postfix_step-requires-clause-value : goal.postfix_step-requires-clause-value
postfix_step-requires-clause-value c =
    let (x, e) = operand_seen _ c.operand_at.result c.operand_at.ensures (c.if-is_none.ensures {u = tt}) in
    (x, c.take_operand-operand.ensures.is x e)

pub returns : goal.returns
returns c =
    let table = c.args.nodes.now in
    let n = c.args.node in
    let p = places_in table in
    let js = judged_to table n in
    let old = c.args.meanings.now in
    let mid = c.take_operand-operand.new.self in
    let new : Meanings = record { types = c.postfix_step.new.table; judged = mid.judged } in
    let (x, e) = operand_seen _ c.operand_at.result c.operand_at.ensures (c.if-is_none.ensures {u = tt}) in
    let text = sym (c.as_slice-text.ensures ∙ ap (λ (x : SynNode). x.text) c.node.ensures.is) in
    expressed_row table n (kid_in table n 0 + 1) old mid new c.expressed.result c.take_operand-operand.ensures.ready c.requires.within c.take_operand-operand.ensures.left refl c.postfix_step.ensures.grows (hidden_for x.form 1) c.postfix_step.result (postfix_step p js (node_in table n) x)
    c.expressed.ensures (postfix_is table n c.requires.kind ∙ with_one table n _ x e)
    (c.postfix_step.ensures.is p js (node_in table n) x (its_number table n 0 old c.requires.ready c.requires.within) text c.requires.hidden c.take_operand-operand.ensures.ready.laid (c.take_operand-operand.ensures.is x e))
