use Rattle.std.proofs.Common.{sym, ◌∙◌}
use Rattle.c_statement_rows.proofs.loops.condition_at.Goals as goal

pub returns-then-is_scalar_value : goal.returns-then-is_scalar_value
returns-then-is_scalar_value c =
    let (y, e, is) = c.in-Some.ensures {u = tt} in (y, e, sym (c.is_scalar_value.ensures y is) ∙ c.if-is_scalar_value.true)

pub returns-else-is_scalar_value : goal.returns-else-is_scalar_value
returns-else-is_scalar_value c =
    let (y, e, is) = c.in-Some.ensures {u = tt} in (y, e, sym (c.is_scalar_value.ensures y is) ∙ c.if-is_scalar_value.false)
