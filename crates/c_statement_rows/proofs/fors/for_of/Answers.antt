use Rattle.std.proofs.Common.{◌≡◌, [], ◌∷◌, ◌++◌, ap, subst, ◌∙◌}
use Rattle.std.specs.Prelude.{IfOk}
use Rattle.c_types.specs.declared.tree.Stmt.{Stmt}
use Rattle.c_types.specs.Forms.{loop}
use Rattle.c_typing.specs.Statements.{block_of}
use Rattle.c_statement_rows.proofs.fors.for_of.Goals as goal

pub returns : goal.returns
returns c =
    subst (λ (s : Stmt). IfOk c.one.result (λ ss. ss ≡ s ∷ []))
    (c.as_block.ensures
    ∙ ap (λ ss. block_of ss)
    (c.in_ok-push-2.ensures.ok
    ∙ ap (λ ss. ss ++ c.in_ok-turns.turns ∷ []) (c.in_ok-push.ensures.ok ∙ ap (λ ss. ss ++ c.args.first ∷ []) c.new-both.ensures)
    ∙ ap (λ t. c.args.first ∷ t ∷ []) (c.in_ok-turns.ensures ∙ ap (λ b. loop c.args.test c.args.step b) c.as_one.ensures)))
    c.one.ensures
