use Rattle.std.proofs.Common.{◌≡◌, ◌≢◌, ◌∙◌, length, List, [], ◌∷◌, refl}
use Rattle.c_types.specs.declared.tree.Stmt.{Stmt}
use Rattle.c_types.proofs.FormLaws.{block_is}
use Rattle.c_typing.specs.Statements as statements
use Rattle.c_statements.proofs.forms.as_one.Goals as goal

not_one : (ss : List Stmt) → length ss ≢ 1 → statements.block_of ss ≡ statements.as_one ss
not_one [] h = refl
not_one (s ∷ []) h = absurd (h refl)
not_one (s ∷ r ∷ rest) h = refl

pub returns-then-len-ne1 : goal.returns-then-len-ne1
returns-then-len-ne1 c = block_is c.args.stmts ∙ not_one c.args.stmts (λ e. c.if-len-ne1.true (c.len.ensures ∙ e))
