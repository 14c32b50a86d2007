use Rattle.std.proofs.Common.{ap, ◌∙◌}
use Rattle.c_types.specs.Forms as forms
use Rattle.c_types.proofs.FormLaws.{load_is}
use Rattle.c_values.proofs.codes.load.Goals as goal

pub returns : goal.returns
returns c = load_is c.args.kind c.in_ok-new.field-0 ∙ ap (λ x. forms.load c.args.kind x) (c.in_ok-new.ensures {u = tt})
