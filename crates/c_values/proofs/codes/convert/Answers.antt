use Rattle.std.proofs.Common.{ap, ◌∙◌}
use Rattle.c_types.specs.Forms as forms
use Rattle.c_types.proofs.FormLaws.{convert_is}
use Rattle.c_values.proofs.codes.convert.Goals as goal

pub returns : goal.returns
returns c = convert_is c.args.to c.in_ok-new.field-0 ∙ ap (λ x. forms.convert c.args.to x) (c.in_ok-new.ensures {u = tt})
