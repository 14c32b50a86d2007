use Rattle.std.proofs.Common.{refl, ap₂, ◌∙◌}
use Rattle.c_types.specs.Forms.{seq}
use Rattle.c_operations.proofs.ChoiceLaws.{comma_is}
use Rattle.c_operations.proofs.choices.comma.Goals as goal

pub returns : goal.returns
returns c = λ k x y h i.
    comma_is c.args.table.now _ x y (record {
      has = c.form_of_result.ensures.has;
      type = i.type;
      form = c.form_of_result.ensures.is y.type i.type;
      constant = refl;
      code = c.in_ok-seq.ensures {u = tt} ∙ ap₂ (λ a b. seq a b) h.code i.code;
    })
