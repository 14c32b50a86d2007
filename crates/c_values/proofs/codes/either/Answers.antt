use Rattle.std.proofs.Common.{ap₂, ◌∙◌}
use Rattle.c_types.specs.Forms as forms
use Rattle.c_types.proofs.FormLaws.{either_is}
use Rattle.c_values.proofs.codes.either.Goals as goal

pub returns : goal.returns
returns c = either_is c.in_ok-left.left c.in_ok-right.right ∙ ap₂ (λ x y. forms.either x y) (c.in_ok-left.ensures {u = tt}) (c.in_ok-right.ensures {u = tt})
