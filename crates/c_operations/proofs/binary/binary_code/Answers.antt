use Rattle.std.proofs.Common.{sym, ap, ap₂, ◌∙◌, subst}
use Rattle.c_typing.specs.Conversions.{operator_code}
use Rattle.c_values.specs.Typings.{IsType}
use Rattle.c_operations.proofs.OperandLaws.{mapped}
use Rattle.c_operations.proofs.CodeLaws.{binary_is}
use Rattle.c_operations.proofs.binary.binary_code.Goals as goal

pub returns-in_default : goal.returns-in_default
returns-in_default c =
    mapped _ _ c.operator_code.result c.operator_code.ensures λ e is o x y ls same laid h i.
    is o x.type y.type ls same laid
    (subst (λ a. IsType c.args.table.now a x.type) (sym (ap (λ p. p.kind) c.code_of.ensures)) h.type)
    (subst (λ a. IsType c.args.table.now a y.type) (sym (ap (λ p. p.kind) c.code_of-in_default.ensures)) i.type)
    ∙ ap₂ (λ l r. operator_code ls o.class x.type y.type o l r) (ap (λ p. p.code) c.code_of.ensures ∙ h.code) (ap (λ p. p.code) c.code_of-in_default.ensures ∙ i.code)
    ∙ binary_is ls c.args.operator.class x y o c.in_default.not-AndThen c.in_default.not-OrElse same.class
