use Rattle.std.proofs.Common.{◌∷◌, [], ap, ap₂, ◌∙◌}
use Rattle.c_types.specs.Forms as forms
use Rattle.c_types.specs.declared.tree.Stmt.{Stmt}
use Rattle.c_types.proofs.FormLaws.{do_loop_is}
use Rattle.c_type_ids.proofs.IdLaws.{if_ok}
use Rattle.c_statements.proofs.forms.loop_after.Goals as goal

pub returns : goal.returns
returns c = if_ok _ _ c.one.result (λ ss is. is ∙ ap (λ (s : Stmt). s ∷ [])
    (do_loop_is c.in_ok-body.body c.in_ok-test.test ∙ ap₂ forms.do_loop (c.in_ok-body.ensures {u = tt}) (c.in_ok-test.ensures {u = tt}))) c.one.ensures
