use Rattle.std.proofs.Common.{◌∷◌, ◌+◌, ◌⊎◌, inl, inr, ℕ, sym, ap, ◌∙◌, subst}
use Rattle.c_lexer.specs.Tokens.{IsLineComment, IsBlockComment}
use Rattle.c_lexer.proofs.Blanks.{line_comment_found, block_comment_found, no_star_comment}
use Rattle.c_lexer.proofs.piece.comment_size.Goals as goal

pub returns-then-first-eq47-clause-found : goal.returns-then-first-eq47-clause-found
returns-then-first-eq47-clause-found c =
    let split = c.in_ok-first.ensures.cases.0 ∙ ap (λ b. b ∷ c.in_ok-first.rest.now) c.if-first-eq47.true in
    inl (subst (λ t. IsLineComment (47 ∷ t) (c.line_size.result + 2)) (sym split) (line_comment_found c.in_ok-first.rest.now c.line_size.result c.line_size.ensures.size))

pub returns-then-first-eq42-clause-found : goal.returns-then-first-eq42-clause-found
returns-then-first-eq42-clause-found c =
    let split = c.in_ok-first.ensures.cases.0 ∙ ap (λ b. b ∷ c.in_ok-first.rest.now) c.if-first-eq42.true in
    let e = c.in_ok-end.ensures in
    inr (subst (λ t. IsBlockComment (47 ∷ t) (c.in_ok-end.end + 4)) (sym split) (block_comment_found c.in_ok-first.rest.now c.in_ok-end.end e.found.0 e.found.1 e.found.2 e.first))

pub returns-in_err-end-clause-none : goal.returns-in_err-end-clause-none
returns-in_err-end-clause-none c =
    let split = c.in_ok-first.ensures.cases.0 ∙ ap (λ b. b ∷ c.in_ok-first.rest.now) c.if-first-eq42.true in
    rw c.from_residual-in_err-end.ensures (subst (λ t. (n : ℕ) → IsLineComment (47 ∷ t) n ⊎ IsBlockComment (47 ∷ t) n → ⊥) (sym split) (no_star_comment c.in_ok-first.rest.now c.in_err-end.ensures.none))
