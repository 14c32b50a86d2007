use Rattle.std.proofs.Common.{◌≡◌, ◌+◌, suc, sym, ap, ◌∙◌, subst, arith, ℕ, List, [], ◌∷◌}
use Rattle.std.specs.Prelude.{IfSome, IfNone}
use Rattle.c_lexer.specs.declared.token.TokenKind.TheVariants.{Char}
use Rattle.c_lexer.specs.Literals.{StandsFor}
use Rattle.c_lexer.specs.Readings.{IsTokenAt}
use Rattle.c_lexer.proofs.OneToken.{one_meaning}
use Rattle.c_lexer.proofs.TokensAt.{character_at, no_character_at, no_character_end}
use Rattle.c_lexer.proofs.piece.character_at.Goals as goal

pub returns-in_default-clause-none : goal.returns-in_default-clause-none
returns-in_default-clause-none c = no_character_end c.args.rest.now c.in_default.ensures.none

pub returns-in_default-2-clause-none : goal.returns-in_default-2-clause-none
returns-in_default-2-clause-none c =
    let f = c.in-Some.ensures.found in
    let none = subst (λ o. IfNone o ((bytes : List ℕ) → StandsFor c.split_at.result.0.now bytes → ⊥)) c.in_default-2.is c.in_ok-bytes.ensures.none in
    no_character_at c.args.rest.now c.in-Some.size f.0 f.1 f.2 (λ value s. none (value ∷ []) (subst (λ t. StandsFor t (value ∷ [])) (sym c.split_at.ensures.front) s))

pub returns-in-Some-only_byte-clause-found : goal.returns-in-Some-only_byte-clause-found
returns-in-Some-only_byte-clause-found c =
    let f = c.in-Some.ensures.found in
    let stands = subst (λ o. IfSome o (λ bytes. StandsFor c.split_at.result.0.now bytes)) c.in-Some-2.is c.in_ok-bytes.ensures.found in
    let bytes : c.in-Some-2.bytes ≡ c.from.result ∷ [] = sym c.as_slice.ensures ∙ c.in-Some-only_byte.ensures.found ∙ ap (λ b. b ∷ []) (sym c.from.ensures) in
    let here = subst (λ t. StandsFor t (c.from.result ∷ [])) c.split_at.ensures.front (subst (StandsFor c.split_at.result.0.now) bytes stands) in
    let size : suc (suc c.in-Some.size) ≡ c.in-Some.size + 2 = omega arith in
    subst (λ n. IsTokenAt (39 ∷ c.args.rest.now) n (Char c.from.result)) size (character_at c.args.rest.now c.in-Some.size f.0 c.from.result f.1 f.2 here)

pub returns-clause-none : goal.returns-clause-none
returns-clause-none c =
    let f = c.in-Some.ensures.found in
    let stands = subst (λ o. IfSome o (λ bytes. StandsFor c.split_at.result.0.now bytes)) c.in-Some-2.is c.in_ok-bytes.ensures.found in
    no_character_at c.args.rest.now c.in-Some.size f.0 f.1 f.2 (λ value s.
    let same = one_meaning c.split_at.result.0.now c.in-Some-2.bytes (value ∷ []) stands (subst (λ t. StandsFor t (value ∷ [])) (sym c.split_at.ensures.front) s) in
    c.in-None.ensures.none value (c.as_slice.ensures ∙ same))
