use Rattle.c_typing.specs.Judgements.{layouts}
use Rattle.c_operations.proofs.OperandLaws.{operand_is}
use Rattle.c_values.proofs.GrowLaws.{is_grows}
use Rattle.c_operations.proofs.BinaryLaws.{binary_allowed, binary_refused, Type_of}
use Rattle.c_operations.proofs.binary.binary_by.Goals as goal

pub returns-in_err-kind-clause-is : goal.returns-in_err-kind-clause-is
returns-in_err-kind-clause-is c = λ js n x y o at laid h i same.
    binary_refused c.binary_type.new.table js n c.args.node x y o at c.from_residual.result c.in_err-kind.field-0.0 c.from_residual.ensures.1
    (c.in_err-kind.ensures.is (layouts js) x y o laid (operand_is c.args.table.now c.args.left c.operand_of.result x c.operand_of.ensures h) (operand_is c.args.table.now c.args.right c.operand_of-2.result y c.operand_of-2.ensures i) same)

pub binary_value-requires-clause-left : goal.binary_value-requires-clause-left
binary_value-requires-clause-left c =
    (c.requires.left.0, is_grows c.args.table.now c.binary_type.new.table c.in_ok-kind.ensures.grows.keeps c.args.left c.requires.left.0 c.requires.left.1)

pub binary_value-requires-clause-right : goal.binary_value-requires-clause-right
binary_value-requires-clause-right c =
    (c.requires.right.0, is_grows c.args.table.now c.binary_type.new.table c.in_ok-kind.ensures.grows.keeps c.args.right c.requires.right.0 c.requires.right.1)

pub returns-clause-is : goal.returns-clause-is
returns-clause-is c = λ js n x y o at laid h i same.
    let old = c.args.table.now in
    let new = c.binary_type.new.table in
    let made = c.in_ok-kind.ensures.is (layouts js) x y o laid (operand_is old c.args.left c.operand_of.result x c.operand_of.ensures h) (operand_is old c.args.right c.operand_of-2.result y c.operand_of-2.ensures i) same in
    let grows = c.in_ok-kind.ensures.grows in
    binary_allowed new js n c.args.node x y o at c.in_ok-binary_value.field-0 made.0
    (c.in_ok-binary_value.ensures o (Type_of new js n c.args.node x y o at) x y (layouts js) same (grows.laid (layouts js) laid) made.1 (is_grows old new grows.keeps c.args.left x h) (is_grows old new grows.keeps c.args.right y i))
