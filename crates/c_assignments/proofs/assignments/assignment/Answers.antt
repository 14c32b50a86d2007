use Rattle.c_typing.specs.Judgements.{layouts}
use Rattle.c_operations.proofs.OperandLaws.{operand_is}
use Rattle.c_assignments.proofs.AssignmentLaws.{assignment_allowed, assignment_refused}
use Rattle.c_assignments.proofs.assignments.assignment.Goals as goal

pub returns-in_err-check_assignment : goal.returns-in_err-check_assignment
returns-in_err-check_assignment c = λ js n x y at right laid h i.
    assignment_refused c.args.table.now js n c.args.node c.args.right_node x y at right c.from_residual.result c.in_err-check_assignment.field-0.0 c.from_residual.ensures.1
    (c.in_err-check_assignment.ensures {u = tt} (layouts js) x y laid h (operand_is c.args.table.now c.args.right c.operand_of.result y c.operand_of.ensures i))

pub returns : goal.returns
returns c = λ js n x y at right laid h i.
    assignment_allowed c.args.table.now js n c.args.node c.args.right_node x y at right c.in_ok-assigned.field-0
    (c.in_ok-check_assignment.ensures {u = tt} (layouts js) x y laid h (operand_is c.args.table.now c.args.right c.operand_of.result y c.operand_of.ensures i)).0
    (c.in_ok-assigned.ensures {u = tt} (layouts js) x y laid h i)
