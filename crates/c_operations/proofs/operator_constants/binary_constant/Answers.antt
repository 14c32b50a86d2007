use Rattle.std.proofs.Common.{sym, ap, ◌∙◌}
use Rattle.c_values.specs.Operators.{class_of}
use Rattle.c_operations.proofs.ConstantLaws.{of_sum, of_difference, of_others}
use Rattle.c_operations.proofs.operator_constants.binary_constant.Goals as goal

pub returns-in-Additive : goal.returns-in-Additive
returns-in-Additive c = λ o x y ls same laid h i.
    c.sum_constant.ensures o x y ls same laid h i
    ∙ of_sum ls o c.args.node x.type y.type x.constant y.constant (sym (ap (λ q. class_of q) c.in-Additive.is) ∙ same.class)

pub returns-in-Subtractive : goal.returns-in-Subtractive
returns-in-Subtractive c = λ o x y ls same laid h i.
    c.difference_constant.ensures o x y ls same laid h i
    ∙ of_difference ls o c.args.node x.type y.type x.constant y.constant (sym (ap (λ q. class_of q) c.in-Subtractive.is) ∙ same.class)

pub returns-in_default : goal.returns-in_default
returns-in_default c = λ o x y ls same laid h i.
    c.plain_constant.ensures o x y same h i
    ∙ of_others ls o c.args.node x.type y.type x.constant y.constant c.args.operator.class
    c.in_default.not-Additive c.in_default.not-Subtractive c.in_default.not-Shift c.in_default.not-AndThen c.in_default.not-OrElse same.class
