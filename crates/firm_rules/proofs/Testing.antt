-- Tests of lists, and what it says that they pass.
use Rattle.std.proofs.Common.{◌≡◌, refl, sym, ◌∙◌, subst, ℕ, zero, suc, ◌+◌, ◌<◌, ◌==◌, arith, Bool, true, false, true≢false, ◌⊎◌, inl, inr, List, [], ◌∷◌, length, Option, Some, None}
use Rattle.std.specs.Prelude.{slice_get, not, cond, ◌&&◌, ◌||◌, option_map, unwrap_or}
use Rattle.std.specs.List.{position_or_len, list_all, list_any}
use Rattle.firm_rules.specs.Graphs.{FirmNode, FirmBlock, Firm}
use Rattle.firm_rules.specs.Lookups.{node_at, IsBlock, preds_of}
use Rattle.firm_rules.proofs.Steps.{Test, alike, apart, test}
use Rattle.firm_rules.proofs.Chains.{both_true}
use Rattle.firm_rules.proofs.Nodes.{none_is_not_some, same_some, is_there}

-- ---- truth values

pub either_true : (a b : Bool) → a || b ≡ true → (a ≡ true) ⊎ (b ≡ true)
either_true true b e = inl refl
either_true false b e = inr e

-- where the first part does not hold the second does
pub or_else : (a b : Bool) → a ≡ true → not a || b ≡ true → b ≡ true
or_else true b is e = e
or_else false b is e = absurd (true≢false (sym is))

pub or_then : (a b : Bool) → a ≡ false → a || b ≡ true → b ≡ true
or_then true b is e = absurd (true≢false is)
or_then false b is e = e

pub equal : (m n : ℕ) → (m == n) ≡ true → m ≡ n
equal m n e = by (test m n)
  where
    by : Test m n → m ≡ n
    by (alike same _) = same
    by (apart _ t) = absurd (true≢false (sym e ∙ t))

pub equal_is : (m n : ℕ) → m ≡ n → (m == n) ≡ true
equal_is m n same = by (test m n)
  where
    by : Test m n → (m == n) ≡ true
    by (alike _ t) = t
    by (apart d _) = absurd (d same)

pub unequal_is : (m n : ℕ) → (m ≡ n → ⊥) → (m == n) ≡ false
unequal_is m n d = by (test m n)
  where
    by : Test m n → (m == n) ≡ false
    by (alike same _) = absurd (d same)
    by (apart _ t) = t

-- ---- lists

pub all_at : {X : Type 0} → (t : X → Bool) (xs : List X) → list_all t xs ≡ true → (index : ℕ) (x : X) → slice_get xs index ≡ Some x → t x ≡ true
all_at t [] e index x at = absurd (none_is_not_some x at)
all_at t (y ∷ ys) e zero x at = subst (λ z. t z ≡ true) (same_some y x at) (both_true (t y) (list_all t ys) e).0
all_at t (y ∷ ys) e (suc index) x at = all_at t ys (both_true (t y) (list_all t ys) e).1 index x at

pub record Found {X : Type 0} (t : X → Bool) (xs : List X) : Type 0 where
  pub index : ℕ
  pub element : X
  pub at : slice_get xs index ≡ Some element
  pub passes : t element ≡ true

pub any_at : {X : Type 0} → (t : X → Bool) (xs : List X) → list_any t xs ≡ true → Found t xs
any_at t [] e = absurd (true≢false (sym e))
any_at t (y ∷ ys) e = by (t y) refl (any_at t ys)
  where
    by : (b : Bool) → t y ≡ b → (list_any t ys ≡ true → Found t ys) → Found t (y ∷ ys)
    by true is later = record { index = 0; element = y; at = refl; passes = is }
    by false no_pass later =
        let rest = later (or_then (t y) (list_any t ys) no_pass e) in
        record { index = suc rest.index; element = rest.element; at = rest.at; passes = rest.passes }

-- elements with their places
abbrev pub pass : {X : Type 0} → (ℕ → X → Bool) → List X → Bool
pass t [] = true
pass t (x ∷ xs) = t 0 x && pass (λ n. t (suc n)) xs

pub pass_at : {X : Type 0} → (t : ℕ → X → Bool) (xs : List X) → pass t xs ≡ true → (n : ℕ) (x : X) → slice_get xs n ≡ Some x → t n x ≡ true
pass_at t [] e n x at = absurd (none_is_not_some x at)
pass_at t (y ∷ ys) e zero x at = subst (λ z. t 0 z ≡ true) (same_some y x at) (both_true (t 0 y) (pass (λ n. t (suc n)) ys) e).0
pass_at t (y ∷ ys) e (suc n) x at = pass_at (λ k. t (suc k)) ys (both_true (t 0 y) (pass (λ k. t (suc k)) ys) e).1 n x at

-- ---- graphs

module _ (g : Firm) where
  pub nodes_at : (t : ℕ → FirmNode → Bool) → pass t g.nodes ≡ true → (n : ℕ) (node : FirmNode) → node_at g n ≡ Some node → t n node ≡ true
  nodes_at t e n node is = pass_at t g.nodes e n node (is_there (slice_get g.nodes n) node is).0

  pub blocks_at : (t : ℕ → Bool) → list_all t g.order ≡ true → (b : ℕ) → IsBlock g b → t b ≡ true
  blocks_at t e b is = by g.order e is
    where
      by : (order : List ℕ) → list_all t order ≡ true → position_or_len (λ c. c == b) order < length order → t b ≡ true
      by [] e less = absurd (omega (arith, less))
      by (c ∷ cs) e less = here (test c b) (by cs (both_true (t c) (list_all t cs) e).1)
        where
          here : Test c b → (position_or_len (λ x. x == b) cs < length cs → t b ≡ true) → t b ≡ true
          here (alike same _) later = subst (λ x. t x ≡ true) same (both_true (t c) (list_all t cs) e).0
          here (apart _ u) later =
              later (pred_less (position_or_len (λ x. x == b) cs) (length cs)
              (subst (λ v. cond (not v) (1 + position_or_len (λ x. x == b) cs) 0 < suc (length cs)) u less))
            where
              pred_less : (m n : ℕ) → 1 + m < suc n → m < n
              pred_less m n l = omega (arith, l)

  -- the edges, each with its target, its place among the predecessors and its source
  abbrev pub edges_pass : (ℕ → ℕ → ℕ → Bool) → Bool
  edges_pass t = pass (λ b block. pass (t b) block.preds) g.blocks

  pub edges_at : (t : ℕ → ℕ → ℕ → Bool) → edges_pass t ≡ true → (b at from : ℕ) → slice_get (preds_of g b) at ≡ Some from → t b at from ≡ true
  edges_at t e b at from is = by (slice_get g.blocks b) refl is
    where
      by : (found : Option FirmBlock) → slice_get g.blocks b ≡ found → slice_get (unwrap_or (option_map (λ (x : FirmBlock). x.preds) found) []) at ≡ Some from → t b at from ≡ true
      by None _ is = absurd (none_is_not_some from is)
      by (Some block) found is = pass_at (t b) block.preds (pass_at (λ b block. pass (t b) block.preds) g.blocks e b block found) at from is
