use Rattle.std.proofs.Common.{ap, ap₂, ◌∙◌}
use Rattle.c_types.specs.Forms as forms
use Rattle.c_types.proofs.FormLaws.{loop_is}
use Rattle.c_statements.proofs.forms.loop_before.Goals as goal

pub returns : goal.returns
returns c = loop_is c.in_ok-test.test c.in_ok-step.step c.in_ok-body.body
    ∙ ap₂ (λ x y. forms.loop x y c.in_ok-body.body) (c.in_ok-test.ensures {u = tt}) (c.in_ok-step.ensures {u = tt})
    ∙ ap (λ z. forms.loop c.args.test c.args.step z) (c.in_ok-body.ensures {u = tt})
