use Rattle.std.proofs.Common.{ap₂, ◌∙◌}
use Rattle.c_types.specs.Forms as forms
use Rattle.c_types.proofs.FormLaws.{store_is}
use Rattle.c_values.proofs.codes.store.Goals as goal

pub returns : goal.returns
returns c = store_is c.args.kind c.in_ok-at.at c.in_ok-value.value ∙ ap₂ (λ x y. forms.store c.args.kind x y) (c.in_ok-at.ensures {u = tt}) (c.in_ok-value.ensures {u = tt})
