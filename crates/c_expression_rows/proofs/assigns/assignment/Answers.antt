use Rattle.std.proofs.Common.{◌+◌, arith, refl, sym, ◌∙◌}
use Rattle.c_syntax.specs.declared.kind.SynKind.TheVariants as kind
use Rattle.c_typing.specs.Conversions.{value_of}
use Rattle.c_typing.specs.Expressions.{assignment}
use Rattle.c_type_ids.proofs.TableLaws.{grows_same}
use Rattle.c_values.proofs.GrowLaws.{is_grows}
use Rattle.c_meanings.specs.Meanings.{judged_to, kid_in, node_in}
use Rattle.c_meanings.proofs.MeaningLaws.{expressed_row, its_number, kids_of, left_on, next_kid, waiting_row}
use Rattle.c_expression_rows.proofs.RowLaws.{both_there, left_there, right_there, with_two, without_two}
use Rattle.c_expression_rows.proofs.StepLaws.{assign_is, assignment_is}
use Rattle.c_expression_rows.proofs.assigns.assignment.Goals as goal

pub are_operands-requires-clause-kids : goal.are_operands-requires-clause-kids
are_operands-requires-clause-kids c = kids_of c.args.nodes.now c.args.node 0 c.args.meanings.now c.requires.ready c.requires.within kind.Assign c.requires.kind

pub take_operand-left-requires-clause-kids : goal.take_operand-left-requires-clause-kids
take_operand-left-requires-clause-kids c = let h = kids_of c.args.nodes.now c.args.node 0 c.args.meanings.now c.requires.ready c.requires.within kind.Assign c.requires.kind in omega (arith, h)

pub take_operand-left-requires-clause-there : goal.take_operand-left-requires-clause-there
take_operand-left-requires-clause-there c = left_there c.args.nodes.now c.args.node (sym c.are_operands.ensures ∙ c.if-not-are_operands.false)

pub take_value-requires-clause-kids : goal.take_value-requires-clause-kids
take_value-requires-clause-kids c = kids_of c.args.nodes.now c.args.node 0 c.args.meanings.now c.requires.ready c.requires.within kind.Assign c.requires.kind

pub take_value-requires-clause-there : goal.take_value-requires-clause-there
take_value-requires-clause-there c = right_there c.args.nodes.now c.args.node (sym c.are_operands.ensures ∙ c.if-not-are_operands.false)

pub take_value-requires-clause-ready : goal.take_value-requires-clause-ready
take_value-requires-clause-ready c =
    let table = c.args.nodes.now in
    let n = c.args.node in
    let has = kids_of table n 0 c.args.meanings.now c.requires.ready c.requires.within kind.Assign c.requires.kind in
    (kid_in table n 0 + 1, next_kid table n 0 c.args.meanings.now c.requires.ready c.requires.within 0 has, c.take_operand-left.ensures.ready)

pub returns-then-not-are_operands : goal.returns-then-not-are_operands
returns-then-not-are_operands c =
    let table = c.args.nodes.now in
    let n = c.args.node in
    waiting_row table n 0 c.args.meanings.now c.requires.ready c.requires.within (assign_is table n c.requires.kind ∙ without_two table n _ (sym c.are_operands.ensures ∙ c.if-not-are_operands.true))

pub assignment-requires-clause-left : goal.assignment-requires-clause-left
assignment-requires-clause-left c =
    let (x, y, a, b) = both_there c.args.nodes.now c.args.node (sym c.are_operands.ensures ∙ c.if-not-are_operands.false) in
    (x, is_grows c.take_operand-left.new.self.types c.take_value.new.self.types c.in_ok-right.ensures.grows.keeps c.take_operand-left.result x (c.take_operand-left.ensures.is x a))

pub assignment-requires-clause-right : goal.assignment-requires-clause-right
assignment-requires-clause-right c =
    let (x, y, a, b) = both_there c.args.nodes.now c.args.node (sym c.are_operands.ensures ∙ c.if-not-are_operands.false) in
    (value_of y, c.in_ok-right.ensures.is y b)

pub returns : goal.returns
returns c =
    let table = c.args.nodes.now in
    let n = c.args.node in
    let js = judged_to table n in
    let old = c.args.meanings.now in
    let first = c.take_operand-left.new.self in
    let mid = c.take_value.new.self in
    let (x, y, a, b) = both_there table n (sym c.are_operands.ensures ∙ c.if-not-are_operands.false) in
    expressed_row table n (kid_in table n 1 + 1) old mid mid c.expressed.result c.in_ok-right.ensures.ready c.requires.within (left_on table n old first mid c.take_operand-left.ensures.left c.in_ok-right.ensures.left) refl (grows_same mid.types mid.types refl) 0 c.assignment.result (assignment js (node_in table n) x (value_of y))
    c.expressed.ensures (assign_is table n c.requires.kind ∙ with_two table n _ x y a b ∙ assignment_is table n c.requires.kind x y c.requires.text)
    (c.assignment.ensures js (node_in table n) x (value_of y) (its_number table n 0 old c.requires.ready c.requires.within) (sym c.kid.ensures.is) c.in_ok-right.ensures.ready.laid
    (is_grows first.types mid.types c.in_ok-right.ensures.grows.keeps c.take_operand-left.result x (c.take_operand-left.ensures.is x a)) (c.in_ok-right.ensures.is y b))
