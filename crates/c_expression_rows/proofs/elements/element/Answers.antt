use Rattle.std.proofs.Common.{◌+◌, refl, subst, sym, ◌∙◌, arith}
use Rattle.c_syntax.specs.declared.kind.SynKind.TheVariants as kind
use Rattle.c_typing.specs.Expressions.{subscript}
use Rattle.c_values.specs.Typings.{Is}
use Rattle.c_meanings.specs.declared.meanings.Meanings.{Meanings}
use Rattle.c_meanings.specs.Meanings.{judged_to, kid_in, node_in}
use Rattle.c_meanings.proofs.MeaningLaws.{expressed_row, its_number, kids_of, left_on, next_kid, waiting_row}
use Rattle.c_expression_rows.proofs.RowLaws.{both_there, element_is, with_two, without_two}
use Rattle.c_expression_rows.proofs.elements.element.Goals as goal

pub are_operands-requires-clause-kids : goal.are_operands-requires-clause-kids
are_operands-requires-clause-kids c = kids_of c.args.nodes.now c.args.node 0 c.args.meanings.now c.requires.ready c.requires.within kind.Index c.requires.kind

pub take_operand-left-requires-clause-kids : goal.take_operand-left-requires-clause-kids
take_operand-left-requires-clause-kids c = let h = kids_of c.args.nodes.now c.args.node 0 c.args.meanings.now c.requires.ready c.requires.within kind.Index c.requires.kind in omega (arith, h)

pub take_operand-right-requires-clause-kids : goal.take_operand-right-requires-clause-kids
take_operand-right-requires-clause-kids c = kids_of c.args.nodes.now c.args.node 0 c.args.meanings.now c.requires.ready c.requires.within kind.Index c.requires.kind

pub take_operand-right-requires-clause-ready : goal.take_operand-right-requires-clause-ready
take_operand-right-requires-clause-ready c =
    let table = c.args.nodes.now in
    let n = c.args.node in
    (kid_in table n 0 + 1, next_kid table n 0 c.args.meanings.now c.requires.ready c.requires.within 0 (kids_of c.args.nodes.now c.args.node 0 c.args.meanings.now c.requires.ready c.requires.within kind.Index c.requires.kind), c.take_operand-left.ensures.ready)

pub returns-then-not-are_operands : goal.returns-then-not-are_operands
returns-then-not-are_operands c =
    let table = c.args.nodes.now in
    let n = c.args.node in
    waiting_row table n 0 c.args.meanings.now c.requires.ready c.requires.within (element_is table n c.requires.kind ∙ without_two table n _ (sym c.are_operands.ensures ∙ c.if-not-are_operands.true))

pub subscript-requires-clause-left : goal.subscript-requires-clause-left
subscript-requires-clause-left c =
    let (x, y, a, b) = both_there c.args.nodes.now c.args.node (sym c.are_operands.ensures ∙ c.if-not-are_operands.false) in
    (x, subst (λ k. Is k c.take_operand-left.result x) (sym c.take_operand-right.ensures.types) (c.take_operand-left.ensures.is x a))

pub subscript-requires-clause-right : goal.subscript-requires-clause-right
subscript-requires-clause-right c =
    let (x, y, a, b) = both_there c.args.nodes.now c.args.node (sym c.are_operands.ensures ∙ c.if-not-are_operands.false) in
    (y, c.take_operand-right.ensures.is y b)

pub returns : goal.returns
returns c =
    let table = c.args.nodes.now in
    let n = c.args.node in
    let js = judged_to table n in
    let old = c.args.meanings.now in
    let first = c.take_operand-left.new.self in
    let mid = c.take_operand-right.new.self in
    let new : Meanings = record { types = c.subscript.new.table; judged = mid.judged } in
    let (x, y, a, b) = both_there table n (sym c.are_operands.ensures ∙ c.if-not-are_operands.false) in
    expressed_row table n (kid_in table n 1 + 1) old mid new c.expressed.result c.take_operand-right.ensures.ready c.requires.within (left_on table n old first mid c.take_operand-left.ensures.left c.take_operand-right.ensures.left) refl c.subscript.ensures.grows 0 c.subscript.result (subscript js (node_in table n) x y)
    c.expressed.ensures (element_is table n c.requires.kind ∙ with_two table n _ x y a b)
    (c.subscript.ensures.is js (node_in table n) x y c.take_operand-right.ensures.ready.laid (its_number table n 0 old c.requires.ready c.requires.within)
    (subst (λ k. Is k c.take_operand-left.result x) (sym c.take_operand-right.ensures.types) (c.take_operand-left.ensures.is x a)) (c.take_operand-right.ensures.is y b))
