use Rattle.std.proofs.Common.{◌≡◌, ◌+◌, suc, sym, subst, arith, ℕ, List, ◌∷◌}
use Rattle.std.specs.Prelude.{IfSome, IfNone}
use Rattle.c_lexer.specs.declared.token.TokenKind.TheVariants.{Str}
use Rattle.c_lexer.specs.Literals.{StandsFor}
use Rattle.c_lexer.specs.Readings.{IsTokenAt}
use Rattle.c_lexer.proofs.TokensAt.{string_at, no_string_at, no_string_end}
use Rattle.c_lexer.proofs.piece.string_at.Goals as goal

pub returns-in_default-clause-none : goal.returns-in_default-clause-none
returns-in_default-clause-none c = no_string_end c.args.rest.now c.in_default.ensures.none

pub returns-in-Some-2-clause-found : goal.returns-in-Some-2-clause-found
returns-in-Some-2-clause-found c =
    let f = c.in-Some.ensures.found in
    let stands = subst (λ o. IfSome o (λ bytes. StandsFor c.split_at.result.0.now bytes)) c.in-Some-2.is c.in_ok-bytes.ensures.found in
    let size : suc (suc c.in-Some.size) ≡ c.in-Some.size + 2 = omega arith in
    subst (λ n. IsTokenAt (34 ∷ c.args.rest.now) n (Str c.in-Some-2.bytes)) size
    (string_at c.args.rest.now c.in-Some.size f.0 c.in-Some-2.bytes f.1 f.2 (subst (λ t. StandsFor t c.in-Some-2.bytes) c.split_at.ensures.front stands))

pub returns-in-None-clause-none : goal.returns-in-None-clause-none
returns-in-None-clause-none c =
    let f = c.in-Some.ensures.found in
    let none = subst (λ o. IfNone o ((bytes : List ℕ) → StandsFor c.split_at.result.0.now bytes → ⊥)) c.in-None.is c.in_ok-bytes.ensures.none in
    no_string_at c.args.rest.now c.in-Some.size f.0 f.1 f.2 (λ bytes s. none bytes (subst (λ t. StandsFor t bytes) (sym c.split_at.ensures.front) s))
