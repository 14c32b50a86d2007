use Rattle.std.proofs.Common.{sym, ◌∙◌, subst}
use Rattle.std.specs.Prelude.{if◌then◌else◌}
use Rattle.c_values.specs.Operators.{ResultIs}
use Rattle.c_operations.proofs.ChoiceLaws.{compared_is}
use Rattle.c_operations.proofs.choices.compared.Goals as goal

pub returns-then-are_comparable : goal.returns-then-are_comparable
returns-then-are_comparable c = λ ls x y h i.
    subst (λ r. ResultIs c.one_of.result r x.type y.type)
    (compared_is ls x y (if c.takes_left.result then x.type else y.type) (sym (c.are_comparable.ensures x y h i) ∙ c.if-are_comparable.true) (c.takes_left.ensures ls x y h i))
    (c.one_of.ensures x.type y.type)
