use Rattle.std.proofs.Common.{◌∙◌}
use Rattle.c_operations.proofs.OperandLaws.{mapped}
use Rattle.c_assignments.proofs.AssignmentLaws.{copied}
use Rattle.c_assignments.proofs.assignments.assigned_code.Goals as goal

pub returns-in-Some : goal.returns-in-Some
returns-in-Some c =
    mapped _ _ c.copy.result c.copy.ensures λ e is ls x y laid h i.
    is ∙ copied ls x y c.in-Some.measure c.args.left.code c.args.right.code (c.in-Some.ensures ls x.type laid h.type) h.code i.code
