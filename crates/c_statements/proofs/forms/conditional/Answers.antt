use Rattle.std.proofs.Common.{◌∷◌, [], ap, ap₂, ◌∙◌}
use Rattle.c_types.specs.Forms as forms
use Rattle.c_types.specs.declared.tree.Stmt.{Stmt}
use Rattle.c_types.proofs.FormLaws.{if_else_is}
use Rattle.c_type_ids.proofs.IdLaws.{if_ok}
use Rattle.c_statements.proofs.forms.conditional.Goals as goal

pub returns : goal.returns
returns c = if_ok _ _ c.one.result (λ ss is. is ∙ ap (λ (s : Stmt). s ∷ [])
    (if_else_is c.in_ok-condition.condition c.in_ok-then.then c.in_ok-other.other
    ∙ ap₂ (λ x y. forms.if_else x y c.in_ok-other.other) (c.in_ok-condition.ensures {u = tt}) (c.in_ok-then.ensures {u = tt})
    ∙ ap (λ z. forms.if_else c.args.condition c.args.then z) (c.in_ok-other.ensures {u = tt}))) c.one.ensures
