use Rattle.std.proofs.Common.{ap, ap₂, ◌∙◌}
use Rattle.c_types.specs.Forms as forms
use Rattle.c_types.proofs.FormLaws.{choose_is}
use Rattle.c_values.proofs.codes.choose.Goals as goal

pub returns : goal.returns
returns c = choose_is c.in_ok-condition.condition c.in_ok-then.then c.in_ok-other.other ∙ ap₂ (λ x y. forms.choose x y c.in_ok-other.other) (c.in_ok-condition.ensures {u = tt}) (c.in_ok-then.ensures {u = tt}) ∙ ap (λ z. forms.choose c.args.condition c.args.then z) (c.in_ok-other.ensures {u = tt})
