use Rattle.std.proofs.Common.{◌∙◌}
use Rattle.c_operations.proofs.OperandLaws.{mapped}
use Rattle.c_operations.proofs.CodeLaws.{by_class}
use Rattle.c_operations.proofs.operator_codes.operator_code.Goals as goal

pub returns-in_default : goal.returns-in_default
returns-in_default c =
    mapped _ _ c.plain_code.result c.plain_code.ensures λ e is o t u ls same laid h i.
    is o t u same h i ∙ by_class ls c.args.operator.class t u o c.args.left.code c.args.right.code c.in_default.not-Additive c.in_default.not-Subtractive c.in_default.not-Shift same.class
