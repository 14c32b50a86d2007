use Rattle.std.proofs.Common.{ap₂, ◌∙◌}
use Rattle.c_types.specs.Forms as forms
use Rattle.c_types.proofs.FormLaws.{copy_is}
use Rattle.c_values.proofs.codes.copy.Goals as goal

pub returns : goal.returns
returns c = copy_is c.args.size c.args.align c.in_ok-to.to c.in_ok-from.from ∙ ap₂ (λ x y. forms.copy c.args.size c.args.align x y) (c.in_ok-to.ensures {u = tt}) (c.in_ok-from.ensures {u = tt})
