use Rattle.std.proofs.Common.{sym, ◌∙◌, subst}
use Rattle.c_values.specs.Operators.{ResultIs}
use Rattle.c_operations.proofs.ChoiceLaws.{alike, others}
use Rattle.c_operations.proofs.choices.other_choice.Goals as goal

pub returns-then-are_alike : goal.returns-then-are_alike
returns-then-are_alike c = λ ls x y h i none.
    alike ls x y (sym (c.are_alike.ensures x.type y.type h.type i.type) ∙ c.if-are_alike.true)

pub returns-else-are_alike : goal.returns-else-are_alike
returns-else-are_alike c = λ ls x y h i none.
    subst (λ r. ResultIs c.compared.result r x.type y.type) (others ls x y none (sym (c.are_alike.ensures x.type y.type h.type i.type) ∙ c.if-are_alike.false))
    (c.compared.ensures ls x y h i)
