use Rattle.c_typing.specs.Judgements.{layouts}
use Rattle.c_type_ids.proofs.TableLaws.{grows_on}
use Rattle.c_values.proofs.GrowLaws.{is_grows}
use Rattle.c_places.proofs.GrowLaws.{indexed_grows}
use Rattle.c_places.proofs.elements.subscript.Goals as goal

pub operand_of-requires-2 : goal.operand_of-requires-2
operand_of-requires-2 c = (c.requires.right.0, is_grows c.args.table.now c.operand_of.new.table c.in_ok-left.ensures.grows.keeps c.args.right c.requires.right.0 c.requires.right.1)

pub returns-in_err-right-clause-grows : goal.returns-in_err-right-clause-grows
returns-in_err-right-clause-grows c = grows_on c.args.table.now c.operand_of.new.table c.operand_of-2.new.table c.in_ok-left.ensures.grows c.in_err-right.ensures.grows

pub element_by-requires-clause-left : goal.element_by-requires-clause-left
element_by-requires-clause-left c = (
  c.requires.left.0,
  indexed_grows c.operand_of.new.table c.operand_of-2.new.table c.in_ok-right.ensures.grows.keeps c.in_ok-left.left c.requires.left.0 (c.in_ok-left.ensures.is c.requires.left.0 c.requires.left.1),
)

pub element_by-requires-clause-right : goal.element_by-requires-clause-right
element_by-requires-clause-right c = (
  c.requires.right.0,
  c.in_ok-right.ensures.is c.requires.right.0 (is_grows c.args.table.now c.operand_of.new.table c.in_ok-left.ensures.grows.keeps c.args.right c.requires.right.0 c.requires.right.1),
)

pub returns-clause-is : goal.returns-clause-is
returns-clause-is c = λ js n x y laid same h i.
    c.element_by.ensures js n x y (c.in_ok-right.ensures.grows.laid (layouts js) (c.in_ok-left.ensures.grows.laid (layouts js) laid)) same
    (indexed_grows c.operand_of.new.table c.operand_of-2.new.table c.in_ok-right.ensures.grows.keeps c.in_ok-left.left x (c.in_ok-left.ensures.is x h))
    (c.in_ok-right.ensures.is y (is_grows c.args.table.now c.operand_of.new.table c.in_ok-left.ensures.grows.keeps c.args.right y i))

pub returns-clause-grows : goal.returns-clause-grows
returns-clause-grows c = grows_on c.args.table.now c.operand_of.new.table c.operand_of-2.new.table c.in_ok-left.ensures.grows c.in_ok-right.ensures.grows
