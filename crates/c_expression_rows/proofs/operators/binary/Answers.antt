use Rattle.std.proofs.Common.{ap, refl, sym, ◌∙◌}
use Rattle.c_syntax.specs.declared.kind.SynKind.TheVariants as kind
use Rattle.c_syntax.specs.declared.syntax.SynNode.{SynNode}
use Rattle.c_typing.specs.Conversions.{operator_of, value_of}
use Rattle.c_typing.specs.Expressions.{binary_by}
use Rattle.c_meanings.specs.declared.meanings.Meanings.{Meanings}
use Rattle.c_meanings.specs.Meanings.{judged_to, node_in}
use Rattle.c_meanings.proofs.MeaningLaws.{expressed_row, its_number, kids_of, waiting_row}
use Rattle.c_expression_rows.proofs.RowLaws.{binary_is, binary_with, binary_without, both_there, no_operator, operator_there, without_two}
use Rattle.c_expression_rows.proofs.operators.binary.Goals as goal

pub are_operands-requires-clause-kids : goal.are_operands-requires-clause-kids
are_operands-requires-clause-kids c = kids_of c.args.nodes.now c.args.node 0 c.args.meanings.now c.requires.ready c.requires.within kind.Binary c.requires.kind

pub take_values-requires-clause-kids : goal.take_values-requires-clause-kids
take_values-requires-clause-kids c = kids_of c.args.nodes.now c.args.node 0 c.args.meanings.now c.requires.ready c.requires.within kind.Binary c.requires.kind

pub returns-in_default : goal.returns-in_default
returns-in_default c =
    let table = c.args.nodes.now in
    let n = c.args.node in
    let text = sym (c.as_slice.ensures ∙ ap (λ (x : SynNode). x.text) c.node.ensures.is) in
    waiting_row table n 0 c.args.meanings.now c.requires.ready c.requires.within
    (binary_without table n c.requires.kind (ap operator_of text ∙ no_operator c.operator_of.result _ c.operator_of.ensures c.in_default.not-Some))

pub returns-then-not-are_operands : goal.returns-then-not-are_operands
returns-then-not-are_operands c =
    let table = c.args.nodes.now in
    let n = c.args.node in
    waiting_row table n 0 c.args.meanings.now c.requires.ready c.requires.within (binary_is table n c.requires.kind ∙ without_two table n _ (sym c.are_operands.ensures ∙ c.if-not-are_operands.true))

pub binary_by-requires-clause-left : goal.binary_by-requires-clause-left
binary_by-requires-clause-left c =
    let (x, y, a, b) = both_there c.args.nodes.now c.args.node (sym c.are_operands.ensures ∙ c.if-not-are_operands.false) in
    (value_of x, (c.in_ok-left.ensures.is x y a b).0)

pub binary_by-requires-clause-right : goal.binary_by-requires-clause-right
binary_by-requires-clause-right c =
    let (x, y, a, b) = both_there c.args.nodes.now c.args.node (sym c.are_operands.ensures ∙ c.if-not-are_operands.false) in
    (value_of y, (c.in_ok-left.ensures.is x y a b).1)

pub returns : goal.returns
returns c =
    let table = c.args.nodes.now in
    let n = c.args.node in
    let js = judged_to table n in
    let old = c.args.meanings.now in
    let mid = c.take_values.new.meanings in
    let new : Meanings = record { types = c.binary_by.new.table; judged = mid.judged } in
    let text = sym (c.as_slice.ensures ∙ ap (λ (x : SynNode). x.text) c.node.ensures.is) in
    let (x, y, a, b) = both_there table n (sym c.are_operands.ensures ∙ c.if-not-are_operands.false) in
    let (o, e, same) = operator_there c.in-Some.operator _ (c.in-Some.ensures {u = tt}) in
    let values = c.in_ok-left.ensures.is x y a b in
    let ready = c.in_ok-left.ensures.ready in
    expressed_row table n ready.0 old mid new c.expressed.result ready.1 c.requires.within c.in_ok-left.ensures.left refl c.binary_by.ensures.grows 0 c.binary_by.result (binary_by js (node_in table n) (value_of x) (value_of y) o)
    c.expressed.ensures (binary_with table n c.requires.kind x y o a b (ap operator_of text ∙ e))
    (c.binary_by.ensures.is js (node_in table n) (value_of x) (value_of y) o (its_number table n 0 old c.requires.ready c.requires.within) ready.1.laid values.0 values.1 same)
