use Rattle.std.proofs.Common.{◌∷◌, [], ap, ◌∙◌}
use Rattle.c_types.specs.Forms as forms
use Rattle.c_types.specs.declared.tree.Stmt.{Stmt}
use Rattle.c_types.proofs.FormLaws.{switch_is}
use Rattle.c_type_ids.proofs.IdLaws.{if_ok}
use Rattle.c_statements.proofs.forms.selection.Goals as goal

pub returns : goal.returns
returns c = if_ok _ _ c.one.result (λ ss is. is ∙ ap (λ (s : Stmt). s ∷ [])
    (switch_is c.in_ok-value.value c.args.groups ∙ ap (λ x. forms.switch x (forms.length_of c.args.groups) (forms.group_row c.args.groups)) (c.in_ok-value.ensures {u = tt}))) c.one.ensures
