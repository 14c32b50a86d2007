use Rattle.std.proofs.Common.{ap, ◌∙◌}
use Rattle.c_types.specs.Forms as forms
use Rattle.c_types.proofs.FormLaws.{put_char_is}
use Rattle.c_calls.proofs.calls.put_char.Goals as goal

pub returns : goal.returns
returns c = put_char_is c.in_ok-new.field-0 ∙ ap (λ x. forms.put_char x) (c.in_ok-new.ensures {u = tt})
