use Rattle.std.proofs.Common.{ap, ◌∙◌}
use Rattle.c_types.specs.Forms as forms
use Rattle.c_types.proofs.FormLaws.{set_local_is}
use Rattle.c_values.proofs.codes.set_local.Goals as goal

pub returns : goal.returns
returns c = set_local_is c.args.local c.in_ok-new.field-0 ∙ ap (λ x. forms.set_local c.args.local x) (c.in_ok-new.ensures {u = tt})
