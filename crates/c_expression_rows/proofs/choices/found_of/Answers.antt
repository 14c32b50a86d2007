use Rattle.std.proofs.Common.{inl, inr, sym, ◌∙◌}
use Rattle.c_expression_rows.proofs.RowLaws.{no_typing}
use Rattle.c_expression_rows.proofs.choices.found_of.Goals as goal

pub returns-in_default : goal.returns-in_default
returns-in_default c = inl (no_typing _ c.operand_at.result c.operand_at.ensures c.in_default.not-Some)

pub returns-then-not-is_scalar_value : goal.returns-then-not-is_scalar_value
returns-then-not-is_scalar_value c =
    let (y, e, is) = c.in-Some.ensures {u = tt} in (y, e, sym (c.is_scalar_value.ensures y is) ∙ c.if-not-is_scalar_value.true)

pub returns-then-are_choices : goal.returns-then-are_choices
returns-then-are_choices c =
    let (y, e, is) = c.in-Some.ensures {u = tt} in ((y, e, sym (c.is_scalar_value.ensures y is) ∙ c.if-not-is_scalar_value.false), sym c.are_choices.ensures ∙ c.if-are_choices.true)

pub returns-else-are_choices : goal.returns-else-are_choices
returns-else-are_choices c =
    let (y, e, is) = c.in-Some.ensures {u = tt} in inr ((y, e, sym (c.is_scalar_value.ensures y is) ∙ c.if-not-is_scalar_value.false), sym c.are_choices.ensures ∙ c.if-are_choices.false)
