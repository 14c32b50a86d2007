use Rattle.std.proofs.Common.{◌+◌, ap, refl, sym, ◌∙◌}
use Rattle.std.specs.Prelude.{is_some}
use Rattle.c_syntax.specs.declared.kind.SynKind.TheVariants as kind
use Rattle.c_syntax.specs.declared.syntax.SynNode.{SynNode}
use Rattle.c_typing.specs.Expressions.{dot}
use Rattle.c_type_ids.proofs.TableLaws.{grows_same}
use Rattle.c_meanings.specs.Meanings.{judged_to, kid_in, node_in}
use Rattle.c_meanings.proofs.MeaningLaws.{expressed_row, its_number, kids_of, no_operand, operand_seen, waiting_row}
use Rattle.c_expression_rows.proofs.RowLaws.{dot_is, with_one, without_one}
use Rattle.c_expression_rows.proofs.members.dot.Goals as goal

pub operand_at-requires-clause-kids : goal.operand_at-requires-clause-kids
operand_at-requires-clause-kids c = kids_of c.args.nodes.now c.args.node 0 c.args.meanings.now c.requires.ready c.requires.within kind.Dot c.requires.kind

pub take_operand-operand-requires-clause-kids : goal.take_operand-operand-requires-clause-kids
take_operand-operand-requires-clause-kids c = kids_of c.args.nodes.now c.args.node 0 c.args.meanings.now c.requires.ready c.requires.within kind.Dot c.requires.kind

pub returns-then-is_none : goal.returns-then-is_none
returns-then-is_none c =
    let table = c.args.nodes.now in
    let n = c.args.node in
    waiting_row table n 0 c.args.meanings.now c.requires.ready c.requires.within
    (dot_is table n c.requires.kind ∙ without_one table n _ (ap is_some (no_operand _ c.operand_at.result c.operand_at.ensures (c.if-is_none.ensures {u = tt}))))

pub dot-requires : goal.dot-requires
dot-requires c =
    let (y, e) = operand_seen _ c.operand_at.result c.operand_at.ensures (c.if-is_none.ensures {u = tt}) in
    (y, c.take_operand-operand.ensures.is y e)

pub returns : goal.returns
returns c =
    let table = c.args.nodes.now in
    let n = c.args.node in
    let js = judged_to table n in
    let old = c.args.meanings.now in
    let mid = c.take_operand-operand.new.self in
    let new = mid in
    let (y, e) = operand_seen _ c.operand_at.result c.operand_at.ensures (c.if-is_none.ensures {u = tt}) in
    let text = sym (c.as_slice-name.ensures ∙ ap (λ (x : SynNode). x.text) c.node.ensures.is) in
    expressed_row table n (kid_in table n 0 + 1) old mid new c.expressed.result c.take_operand-operand.ensures.ready c.requires.within c.take_operand-operand.ensures.left refl (grows_same mid.types mid.types refl) 0 c.dot.result (dot js (node_in table n) y)
    c.expressed.ensures (dot_is table n c.requires.kind ∙ with_one table n _ y e)
    (c.dot.ensures js (node_in table n) y c.take_operand-operand.ensures.ready.laid (its_number table n 0 old c.requires.ready c.requires.within) text (c.take_operand-operand.ensures.is y e))
