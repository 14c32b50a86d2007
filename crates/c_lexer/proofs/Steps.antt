-- From piece to piece: what a walk over the bytes needs.
use Rattle.std.proofs.Common.{◌≡◌, ℕ, zero, suc, ◌+◌, ◌-◌, ◌<◌, ◌≤◌, ⊎_elim, Bool, true, false, List, [], ◌++◌, ◌&&◌, not, refl, sym, ap, ◌∙◌, subst, arith, length, take, append_assoc, nat_lt, nat_le}
use Rattle.std.proofs.lemmas.Bool.{cases_lt}
use Rattle.std.proofs.lemmas.Bool.Decides.{nat_tests}
use Rattle.std.proofs.lemmas.List.{append-nil}
use Rattle.c_lexer.specs.declared.token.Token.{Token}
use Rattle.c_lexer.specs.Spellings.{IsLongest}
use Rattle.c_lexer.specs.Tokens.{IsPiece, Reaches, here, piece, IsLexical}
use Rattle.c_lexer.specs.Readings.{HasNoPiece}
use Rattle.c_lexer.proofs.Fronts.{both}
use Rattle.c_lexer.proofs.OneList.{on_one_way}
use Rattle.c_lexer.proofs.Spelled.{longest_by_test}
use Rattle.c_lexer.proofs.Tests.{is_spelling}

-- one piece more
pub Reaches-more : (bytes : List ℕ) (start at n : ℕ) (tokens new : List Token) → Reaches bytes start at tokens → IsPiece bytes at n new → Reaches bytes start (at + n) (tokens ++ new)
Reaches-more bytes _ _ n _ new (here at) p = subst (Reaches bytes at (at + n)) (append-nil new) (piece at n (at + n) new [] p (here (at + n)))
Reaches-more bytes _ _ n _ new (piece at k middle ts rest q r) p =
    subst (Reaches bytes at (middle + n)) (sym (append_assoc ts rest new)) (piece at k (middle + n) ts (rest ++ new) q (Reaches-more bytes (at + k) middle n rest new r p))

no_way : (bytes : List ℕ) (at end : ℕ) (tokens : List Token) → HasNoPiece bytes at → Reaches bytes at end tokens → at < end → ⊥
no_way bytes _ _ _ none (here at) lt = omega (arith, lt)
no_way bytes _ _ _ none (piece at n end ts rest p r) lt = none n ts p

-- where pieces reach a place at which none stands, the bytes have no tokens, and it is the farthest place
pub is_lexical : (bytes : List ℕ) (at : ℕ) (tokens : List Token) → at < length bytes → Reaches bytes 0 at tokens → HasNoPiece bytes at → IsLexical bytes at
is_lexical bytes at tokens within reached none = record {
  none = λ ts has. let way = on_one_way bytes 0 at (length bytes) tokens ts reached has (omega (arith, within)) in no_way bytes at (length bytes) way.0 none way.1 within;
  reached = (tokens, reached);
  farthest = λ other ts r. ⊎_elim (λ lt. absurd (past other ts r lt)) (λ le. le) (cases_lt at other);
}
  where
    past : (other : ℕ) (ts : List Token) → Reaches bytes 0 other ts → at < other → ⊥
    past other ts r lt = let way = on_one_way bytes 0 at other tokens ts reached r (omega (arith, lt)) in no_way bytes at other way.0 none way.1 lt

-- ---- longest spellings, by a test

-- no front of n + 1 to n + k bytes is a spelling
abbrev pub none_longer : List ℕ → ℕ → ℕ → Bool
none_longer text n zero = true
none_longer text n (suc k) = not (is_spelling (take (n + suc k) text)) && none_longer text n k

none_longer_at : (text : List ℕ) (n k m : ℕ) → none_longer text n k ≡ true → n < m → m ≤ n + k → is_spelling (take m text) ≡ false
none_longer_at text n zero m e lt le = absurd (omega (arith, lt, le))
none_longer_at text n (suc k) m e lt le = ⊎_elim (λ less. none_longer_at text n k m parts.1 lt (omega (arith, less))) (λ ge. at (omega (arith, ge, le))) (cases_lt m (n + suc k))
  where
    parts : (not (is_spelling (take (n + suc k) text)) ≡ true) × (none_longer text n k ≡ true)
    parts = both (not (is_spelling (take (n + suc k) text))) (none_longer text n k) e

    is_not : (b : Bool) → not b ≡ true → b ≡ false
    is_not true h = absurd (cc h)
    is_not false h = refl

    at : m ≡ n + suc k → is_spelling (take m text) ≡ false
    at same = ap (λ j. is_spelling (take j text)) same ∙ is_not (is_spelling (take (n + suc k) text)) parts.0

-- the front of n bytes is the longest spelling
abbrev pub is_longest : List ℕ → ℕ → Bool
is_longest text n = nat_lt 0 n && (nat_le n (length text) && (is_spelling (take n text) && none_longer text n (length text - n)))

pub longest : (text : List ℕ) (n : ℕ) → is_longest text n ≡ true → IsLongest text n
longest text n e =
    let a = both (nat_lt 0 n) _ e in
    let b = both (nat_le n (length text)) _ a.1 in
    let c = both (is_spelling (take n text)) _ b.1 in
    longest_by_test text n (grind (arith, nat_tests)) (grind (arith, nat_tests)) (c.0) (λ m lt le. none_longer_at text n (length text - n) m c.1 lt (omega (arith, le)))
