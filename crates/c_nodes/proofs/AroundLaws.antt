-- The innermost node of some kinds: outer ones are written first.
use Rattle.std.proofs.Common.{◌≡◌, ℕ, ◌+◌, ◌<◌, ◌≤◌, true, false, Bool, ◌&&◌, List, ◌∷◌, length, drop, get_or, replicate, refl, sym, ap, ◌∙◌, arith, Option, Some, None}
use Rattle.std.specs.Prelude.{if◌then◌else◌, nat_le, nat_lt}
use Rattle.std.proofs.lemmas.List.{get_or-replicate, drop_all}
use Rattle.std.proofs.lemmas.Grind.{common_steps}
use Rattle.c_typing.specs.Places.{Node, around}
use Rattle.c_nodes.specs.declared.around.Kinds.{Kinds}
use Rattle.c_nodes.specs.Around.{accepts}
use Rattle.c_nodes.specs.Parents.{AreNumbered}
use Rattle.c_nodes.specs.Declarators.{number_or, Points}
use Rattle.c_nodes.proofs.DeclaratorLaws.{found_at, points_at}

abbrev pub around_kinds : Kinds → List Node → ℕ → Option Node
around_kinds kinds s i = around (λ (node : Node). accepts kinds node.label.kind) s i

-- where the nodes from here on have been looked at
abbrev pub AroundFrom : Kinds → List Node → ℕ → List ℕ → ℕ → Type 0
AroundFrom kinds s n found i = get_or found i 0 ≡ number_or (length s) (around_kinds kinds (drop n s) i)

pub around_start : (kinds : Kinds) (s : List Node) (n count i : ℕ) → length s ≡ count → i < count → length s ≤ n → AroundFrom kinds s n (replicate count count) i
around_start kinds s n count i long within past =
    get_or-replicate count i count 0 within ∙ sym long ∙ ap (λ rest. number_or (length s) (around_kinds kinds rest i)) (sym (drop_all n s past))

module _ (kinds : Kinds) (s : List Node) (n : ℕ) (m : Node) (rest : List Node) (cut : drop n s ≡ m ∷ rest) (next : drop (n + 1) s ≡ rest) where
  shown : (i : ℕ) (b : Bool) → (nat_le i m.id && accepts kinds m.label.kind) && (nat_le m.first i && nat_le i m.id) ≡ b
      → number_or (length s) (around_kinds kinds (drop n s) i) ≡ number_or (length s) (if b then Some m else around_kinds kinds (drop (n + 1) s) i)
  shown i b e =
      ap (λ xs. number_or (length s) (around_kinds kinds xs i)) cut
      ∙ ap (λ b. number_or (length s) (if b then Some m else around_kinds kinds rest i)) e
      ∙ ap (λ xs. number_or (length s) (if b then Some m else around_kinds kinds xs i)) (sym next)

  pub around_no : (found : List ℕ) (i : ℕ) → accepts kinds m.label.kind ≡ false → AroundFrom kinds s (n + 1) found i → AroundFrom kinds s n found i
  around_no found i e h = h ∙ sym (shown i false (by (nat_le i m.id) (accepts kinds m.label.kind) (nat_le m.first i && nat_le i m.id) e))
    where
      by : (p q r : Bool) → q ≡ false → (p && q) && r ≡ false
      by false q r e = refl
      by true q r e = ap (λ b. b && r) e

  pub around_yes : (found painted : List ℕ) (i : ℕ) → accepts kinds m.label.kind ≡ true → m.id ≡ n → i < length found
      → get_or painted i 0 ≡ (if nat_le m.first i && (nat_le i n && nat_lt i (length found)) then n else get_or found i 0)
      → AroundFrom kinds s (n + 1) found i → AroundFrom kinds s n painted i
  around_yes found painted i e numbered within written h =
      written ∙ by (nat_le m.first i && nat_le i n) refl
    where
      inside : nat_lt i (length found) ≡ true
      inside = grind (arith, common_steps)

      same : (p q r : Bool) → r ≡ true → (p && (q && r)) ≡ (p && q)
      same p true r k = ap (λ b. p && b) k
      same p false r k = refl

      test : (p q r : Bool) → q ≡ true → (p && q) && (r && p) ≡ (r && p)
      test true q r k = ap (λ b. b && (r && true)) k
      test false q true k = refl
      test false q false k = refl

      told : (b : Bool) → (if b then n else get_or found i 0) ≡ number_or (length s) (if b then Some m else around_kinds kinds (drop (n + 1) s) i)
      told true = sym numbered
      told false = h

      by : (b : Bool) → nat_le m.first i && nat_le i n ≡ b
          → (if nat_le m.first i && (nat_le i n && nat_lt i (length found)) then n else get_or found i 0) ≡ number_or (length s) (around_kinds kinds (drop n s) i)
      by b k =
          ap (λ t. if t then n else get_or found i 0) (same (nat_le m.first i) (nat_le i n) (nat_lt i (length found)) inside ∙ k)
          ∙ told b ∙ sym (shown i b (test (nat_le i m.id) (accepts kinds m.label.kind) (nat_le m.first i) e ∙ ap (λ j. nat_le m.first i && nat_le i j) numbered ∙ k))

pub points_around : (kinds : Kinds) (s : List Node) → AreNumbered s → (i : ℕ) → Points s (number_or (length s) (around_kinds kinds s i)) (around_kinds kinds s i)
points_around kinds s numbered i = by (around_kinds kinds s i) refl
  where
    by : (o : Option Node) → around_kinds kinds s i ≡ o → Points s (number_or (length s) o) o
    by None e = refl
    by (Some m) e = points_at s numbered m (found_at (λ (node : Node). (nat_le i node.id && accepts kinds node.label.kind) && (nat_le node.first i && nat_le i node.id)) s m e)
