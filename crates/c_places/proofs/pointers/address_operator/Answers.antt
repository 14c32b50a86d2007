use Rattle.std.proofs.Common.{◌∙◌, ap}
use Rattle.c_typing.specs.Constants.{address_constant}
use Rattle.c_typing.specs.Expressions.{address_operator}
use Rattle.c_places.proofs.PointerLaws.{address_answered, handed_over}
use Rattle.c_places.proofs.pointers.address_operator.Goals as goal

pub returns-in_err-kind-clause-is : goal.returns-in_err-kind-clause-is
returns-in_err-kind-clause-is c = λ n x same is.
    handed_over c.address_type.new.table c.from_residual.result c.in_err-kind.field-0.0 (address_operator n x) c.from_residual.ensures.1 (c.in_err-kind.ensures.is n x same is.type is.form)

pub returns-clause-is : goal.returns-clause-is
returns-clause-is c = λ n x same is.
    address_answered c.address_type.new.table c.in_ok-kind.kind c.address_constant.result c.args.operand.code x (address_operator n x) (c.address_constant.ensures ∙ ap address_constant is.constant) is.code
    (c.in_ok-kind.ensures.is n x same is.type is.form)
