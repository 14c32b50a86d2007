use Rattle.std.proofs.Common.{◌≡◌, [], ◌∷◌, ap, subst, ◌∙◌}
use Rattle.std.specs.Prelude.{IfOk}
use Rattle.c_types.specs.declared.tree.Stmt.{Stmt}
use Rattle.c_typing.specs.Statements.{as_one}
use Rattle.c_statement_rows.proofs.simple.nothing.Goals as goal

pub returns : goal.returns
returns c = subst (λ (s : Stmt). IfOk c.one.result (λ ss. ss ≡ s ∷ [])) (c.as_one.ensures ∙ ap as_one c.new.ensures) c.one.ensures
