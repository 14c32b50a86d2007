-- The readings of parts with a comma between keep their answers, where those of the parts do.
use Rattle.std.proofs.Common.{◌≡◌, ℕ, zero, suc, ◌<◌, true, List, length, if◌then◌else◌, ap, arith}
use Rattle.c_lexer.specs.declared.token.Punct.TheVariants.{RightBrace, Comma}
use Rattle.c_lexer.specs.declared.token.Token.{Token}
use Rattle.c_syntax.specs.Trees.{Tree, Forest, ◌then◌, one}
use Rattle.c_grammar.specs.Scopes.{Names, after}
use Rattle.c_grammar.specs.Answers.{Answer, found, and_then}
use Rattle.c_grammar.specs.Reading.{Reader, begins_with_mark, behind_one, listed, listed_in_braces}
use Rattle.c_grammar.proofs.SoundSteps.{mark_split}
use Rattle.c_grammar.proofs.KeptSteps.{Keeps, keeps_same, keeps_less, keeps_then, keeps_here, keeps_behind}
use Rattle.c_grammar.proofs.KeptFirst.{keeps_if_mark}
use Rattle.c_grammar.proofs.KeptCounters.{if_same, keeps_length, then_same}

module _ (d : ℕ) (r : Reader) (item : Names → List Token → Answer Tree) (each : (names : Names) (ts : List Token) → Keeps 1 (item names) ts) where
  shorter : (names : Names) (ts b : List Token) (t : Tree) → item names ts ≡ found t b → begins_with_mark Comma b ≡ true → length (behind_one b) < length ts
  shorter names ts b t e c = omega (arith, keeps_length (each names ts) e, ap length (mark_split Comma b c).1)

  module _ (next : Names → Tree → Names) where
    pub listed_counted : (k n : ℕ) (names : Names) (ts : List Token)
        → length ts < k
        → length ts < n
        → listed d r item next k names ts ≡ listed d r item next n names ts
    unfolding listed
    listed_counted zero n names ts lt ln = absurd (omega (arith, lt))
    listed_counted (suc k) zero names ts lt ln = absurd (omega (arith, ln))
    listed_counted (suc k) (suc n) names ts lt ln = then_same (item names ts) (λ t b e. if_same (begins_with_mark Comma b) _ (λ c.
        ap (λ x. and_then x (λ more end. found (t then more) end))
        (listed_counted k n (next names t) (behind_one b) (omega (arith, lt, shorter names ts b t e c)) (omega (arith, ln, shorter names ts b t e c)))))

    -- behind one part, with a counter of its own for the others
    pub listed_on : Names → Tree → List Token → Answer Forest
    listed_on names t rest = if begins_with_mark Comma rest then
        and_then (listed d r item next (suc (length (behind_one rest))) (next names t) (behind_one rest)) (λ more end. found (t then more) end)
        else found (one t) rest

    pub listed_is : (names : Names) (ts : List Token) → listed d r item next (suc (length ts)) names ts ≡ and_then (item names ts) (listed_on names)
    unfolding listed listed_on
    listed_is names ts = then_same (item names ts) (λ t b e. if_same (begins_with_mark Comma b) _ (λ c.
        ap (λ x. and_then x (λ more end. found (t then more) end))
        (listed_counted (length ts) (suc (length (behind_one b))) (next names t) (behind_one b) (shorter names ts b t e c) (omega arith))))

    on_kept : (names : Names) (t : Tree) (b : List Token)
        → (begins_with_mark Comma b ≡ true → Keeps 1 (λ c. listed d r item next (suc (length c)) (next names t) c) (behind_one b))
        → Keeps 1 (listed_on names t) b
    unfolding listed_on
    on_kept names t b deeper = keeps_if_mark Comma b
        (λ c. keeps_then
        (keeps_behind {G = λ a. listed d r item next (suc (length a)) (next names t) a} (mark_split Comma b c).1 (keeps_less (deeper c)))
        (λ more end _. keeps_here))
        (λ _. keeps_here)

    by_length : (n : ℕ) (names : Names) (ts : List Token) → length ts < n → Keeps 1 (λ c. listed d r item next (suc (length c)) names c) ts
    by_length zero names ts lt = absurd (omega (arith, lt))
    by_length (suc n) names ts lt = keeps_same (listed_is names) (keeps_then (each names ts) (λ t b e.
        on_kept names t b (λ c. by_length n (next names t) (behind_one b) (omega (arith, lt, shorter names ts b t e c)))))

    pub listed_kept : (names : Names) (ts : List Token) → Keeps 1 (λ c. listed d r item next (suc (length c)) names c) ts
    listed_kept names ts = by_length (suc (length ts)) names ts (omega arith)

    pub listed_on_kept : (names : Names) (t : Tree) (b : List Token) → Keeps 1 (listed_on names t) b
    listed_on_kept names t b = on_kept names t b (λ _. listed_kept (next names t) (behind_one b))

  -- the same, where a comma may stand before the brace at the end
  braces_counted : (k n : ℕ) (names : Names) (ts : List Token)
      → length ts < k
      → length ts < n
      → listed_in_braces d r item k names ts ≡ listed_in_braces d r item n names ts
  unfolding listed_in_braces
  braces_counted zero n names ts lt ln = absurd (omega (arith, lt))
  braces_counted (suc k) zero names ts lt ln = absurd (omega (arith, ln))
  braces_counted (suc k) (suc n) names ts lt ln = then_same (item names ts) (λ t b e. if_same (begins_with_mark Comma b) _ (λ c.
      ap (λ x. if begins_with_mark RightBrace (behind_one b) then found (one t) (behind_one b) else and_then x (λ more end. found (t then more) end))
      (braces_counted k n (after names t) (behind_one b) (omega (arith, lt, shorter names ts b t e c)) (omega (arith, ln, shorter names ts b t e c)))))

  -- behind the comma
  braces_behind : Names → Tree → List Token → Answer Forest
  braces_behind names t rest = if begins_with_mark RightBrace rest then found (one t) rest
      else and_then (listed_in_braces d r item (suc (length rest)) (after names t) rest) (λ more end. found (t then more) end)

  braces_on : Names → Tree → List Token → Answer Forest
  braces_on names t rest = if begins_with_mark Comma rest then braces_behind names t (behind_one rest) else found (one t) rest

  braces_is : (names : Names) (ts : List Token) → listed_in_braces d r item (suc (length ts)) names ts ≡ and_then (item names ts) (braces_on names)
  unfolding listed_in_braces braces_on braces_behind
  braces_is names ts = then_same (item names ts) (λ t b e. if_same (begins_with_mark Comma b) _ (λ c.
      ap (λ x. if begins_with_mark RightBrace (behind_one b) then found (one t) (behind_one b) else and_then x (λ more end. found (t then more) end))
      (braces_counted (length ts) (suc (length (behind_one b))) (after names t) (behind_one b) (shorter names ts b t e c) (omega arith))))

  braces_behind_kept : (names : Names) (t : Tree) (ts : List Token)
      → Keeps 1 (λ c. listed_in_braces d r item (suc (length c)) (after names t) c) ts
      → Keeps 1 (braces_behind names t) ts
  unfolding braces_behind
  braces_behind_kept names t ts deeper = keeps_if_mark RightBrace ts (λ _. keeps_here) (λ _. keeps_then deeper (λ more end _. keeps_here))

  braces_on_kept : (names : Names) (t : Tree) (b : List Token)
      → (begins_with_mark Comma b ≡ true → Keeps 1 (λ c. listed_in_braces d r item (suc (length c)) (after names t) c) (behind_one b))
      → Keeps 1 (braces_on names t) b
  unfolding braces_on
  braces_on_kept names t b deeper = keeps_if_mark Comma b
      (λ c. keeps_behind {G = braces_behind names t} (mark_split Comma b c).1 (keeps_less (braces_behind_kept names t (behind_one b) (deeper c))))
      (λ _. keeps_here)

  braces_by_length : (n : ℕ) (names : Names) (ts : List Token) → length ts < n → Keeps 1 (λ c. listed_in_braces d r item (suc (length c)) names c) ts
  braces_by_length zero names ts lt = absurd (omega (arith, lt))
  braces_by_length (suc n) names ts lt = keeps_same (braces_is names) (keeps_then (each names ts) (λ t b e.
      braces_on_kept names t b (λ c. braces_by_length n (after names t) (behind_one b) (omega (arith, lt, shorter names ts b t e c)))))

  pub listed_in_braces_kept : (names : Names) (ts : List Token) → Keeps 1 (λ c. listed_in_braces d r item (suc (length c)) names c) ts
  listed_in_braces_kept names ts = braces_by_length (suc (length ts)) names ts (omega arith)
