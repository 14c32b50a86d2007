use Rattle.std.proofs.Common.{sym, ◌∙◌}
use Rattle.c_assignments.proofs.AssignmentLaws.{of_struct, of_other}
use Rattle.c_assignments.proofs.assignments.struct_measure.Goals as goal

pub returns-then-is_struct : goal.returns-then-is_struct
returns-then-is_struct c = λ ls t laid h.
    of_struct ls t c.measure_of.result (sym (c.is_struct.ensures c.args.table.now t (c.kind_of.ensures t h)) ∙ c.if-is_struct.true) (c.measure_of.ensures ls t laid h)

pub returns-else-is_struct : goal.returns-else-is_struct
returns-else-is_struct c = λ ls t laid h.
    of_other ls t (sym (c.is_struct.ensures c.args.table.now t (c.kind_of.ensures t h)) ∙ c.if-is_struct.false)
