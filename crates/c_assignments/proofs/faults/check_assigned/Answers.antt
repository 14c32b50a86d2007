use Rattle.std.proofs.Common.{sym, ap, ◌∙◌}
use Rattle.c_typing.specs.Rules.{big_struct}
use Rattle.c_typing.specs.Conversions.{is_null}
use Rattle.c_assignments.proofs.AssignmentLaws.{conversion_allowed, conversion_refused}
use Rattle.c_assignments.proofs.faults.check_assigned.Goals as goal

pub returns-then-is_assignable : goal.returns-then-is_assignable
returns-then-is_assignable c = λ ls t y laid h i.
    conversion_allowed t y c.args.right_node (big_struct ls t c.args.node) c.is_null.result (c.is_null.ensures ∙ ap (λ a. is_null a) i.constant) c.check_size.result
    (sym (c.is_assignable.ensures t y.type h i.type) ∙ c.if-is_assignable.true) (c.check_size.ensures ls t laid h)

pub returns-else-is_assignable : goal.returns-else-is_assignable
returns-else-is_assignable c = λ ls t y laid h i.
    conversion_refused t y c.args.right_node (big_struct ls t c.args.node) c.is_null.result (c.is_null.ensures ∙ ap (λ a. is_null a) i.constant)
    (sym (c.is_assignable.ensures t y.type h i.type) ∙ c.if-is_assignable.false)
