use Rattle.std.proofs.Common.{ap, ◌∙◌}
use Rattle.c_typing.specs.Conversions.{converted_code}
use Rattle.c_operations.proofs.OperandLaws.{mapped}
use Rattle.c_assignments.proofs.AssignmentLaws.{to_local, to_memory}
use Rattle.c_assignments.proofs.assignments.scalar_code.Goals as goal

pub returns-in-InLocal : goal.returns-in-InLocal
returns-in-InLocal c =
    mapped _ _ c.set_local.result c.set_local.ensures λ e is ls x y h i none.
    is ∙ to_local ls x y c.in_ok-value.value c.args.left.form c.in-InLocal.local none c.in-InLocal.is h.form
    (c.in_ok-value.ensures {u = tt} y.type x.type i.type h.type ∙ ap (λ a. converted_code y.type x.type a) i.code)

pub returns-in_default : goal.returns-in_default
returns-in_default c =
    mapped _ _ c.store.result c.store.ensures λ e is ls x y h i none.
    is ∙ to_memory ls x y c.in_ok-value.value c.args.left.form c.access.result c.args.left.code none c.in_default.not-InLocal h.form (c.access.ensures x.type h.type) h.code
    (c.in_ok-value.ensures {u = tt} y.type x.type i.type h.type ∙ ap (λ a. converted_code y.type x.type a) i.code)
