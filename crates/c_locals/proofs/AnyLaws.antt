-- Whether some name passes a test, of names that stand in the order of their nodes.
use Rattle.std.proofs.Common.{◌≡◌, ◌≢◌, ◌⊎◌, inl, inr, ℕ, ◌+◌, ◌<◌, ◌≤◌, Bool, true, false, ◌&&◌, ◌||◌, cond, List, [], ◌∷◌, Option, Some, None, refl, sym, ap, ◌∙◌, subst, arith}
use Rattle.std.specs.Prelude.{find, nat_lt, nat_eq, ◌==◌}
use Rattle.std.specs.Option.{is_some}
use Rattle.std.proofs.lemmas.Bool.Decides.{eqb_tells}
use Rattle.c_typing.specs.Names.{Name}
use Rattle.c_names.specs.Denoted.{Among}
use Rattle.c_names.proofs.ChainLaws.{Ascend, all_among}

-- whether one passes, among those before one node more
module _ (t : Name → Bool) where
  abbrev pub before : ℕ → Name → Bool
  before n x = t x && nat_lt x.node n

  abbrev pub tells : Option Name → Bool
  tells None = false
  tells (Some e) = t e

  none_past : (n : ℕ) (xs : List Name) → ((x : Name) → Among x xs → n ≤ x.node) → is_some (find (before n) xs) ≡ false
  none_past n [] h = refl
  none_past n (x ∷ xs) h = ap (λ b. is_some (cond b (Some x) (find (before n) xs))) (off (t x) (nat_lt x.node n) (past x.node (h x (inl refl)))) ∙ none_past n xs (λ y i. h y (inr i))
    where
      past : (k : ℕ) → n ≤ k → nat_lt k n ≡ false
      past k low = grind (arith, low)

      off : (a b : Bool) → b ≡ false → (a && b) ≡ false
      off true b e = e
      off false b e = refl

  pub found_more : (i : ℕ) (xs : List Name) → Ascend xs → is_some (find (before (i + 1)) xs) ≡ (is_some (find (before i) xs) || tells (find (λ e. e.node == i) xs))
  found_more i [] s = refl
  found_more i (x ∷ xs) s = by (found_more i xs s.1) (eqb_tells x.node i)
    where
      Goal : Bool → Type 0
      Goal b = is_some (find (before (i + 1)) (x ∷ xs)) ≡ (is_some (find (before i) (x ∷ xs)) || tells (cond b (Some x) (find (λ e. e.node == i) xs)))

      later : (y : Name) → Among y xs → x.node < y.node
      later y j = all_among (λ (z : Name). x.node < z.node) xs s.0 y j

      here : x.node ≡ i → Goal true
      here at =
          ap (λ b. is_some (cond b (Some x) (find (before (i + 1)) xs))) (on (t x) (nat_lt x.node (i + 1)) (ap (λ n. nat_lt n (i + 1)) at ∙ up i))
          ∙ (own (t x) (none_past (i + 1) xs (λ y j. let l = later y j in omega (arith, l, at)))
          ∙ sym (ap (λ b. is_some (cond b (Some x) (find (before i) xs)) || t x) (off (t x) (nat_lt x.node i) (ap (λ n. nat_lt n i) at ∙ not_own i)) ∙ ap (λ b. b || t x) (none_past i xs (λ y j. let l = later y j in omega (arith, l, at)))))
        where
          up : (n : ℕ) → nat_lt n (n + 1) ≡ true
          up n = grind arith

          not_own : (n : ℕ) → nat_lt n n ≡ false
          not_own n = grind arith

          on : (a b : Bool) → b ≡ true → (a && b) ≡ a
          on true b e = e
          on false b e = refl

          off : (a b : Bool) → b ≡ false → (a && b) ≡ false
          off true b e = e
          off false b e = refl

          own : (b : Bool) → is_some (find (before (i + 1)) xs) ≡ false → is_some (cond b (Some x) (find (before (i + 1)) xs)) ≡ b
          own true e = refl
          own false e = e

      other : is_some (find (before (i + 1)) xs) ≡ (is_some (find (before i) xs) || tells (find (λ e. e.node == i) xs)) → x.node ≢ i → Goal false
      other more differs = ap (λ b. is_some (cond b (Some x) (find (before (i + 1)) xs))) (ap (λ k. t x && k) (next_less x.node i differs)) ∙ tail (before i x)
        where
          next_less : (a n : ℕ) → (a ≡ n → ⊥) → nat_lt a (n + 1) ≡ nat_lt a n
          next_less a n h = grind arith

          tail : (b : Bool) → is_some (cond b (Some x) (find (before (i + 1)) xs)) ≡ (is_some (cond b (Some x) (find (before i) xs)) || tells (find (λ e. e.node == i) xs))
          tail true = refl
          tail false = more

      by : is_some (find (before (i + 1)) xs) ≡ (is_some (find (before i) xs) || tells (find (λ e. e.node == i) xs)) → ((nat_eq x.node i ≡ true) × (x.node ≡ i)) ⊎ ((nat_eq x.node i ≡ false) × (x.node ≢ i)) → Goal (nat_eq x.node i)
      by more (inl p) = subst Goal (sym p.0) (here p.1)
      by more (inr p) = subst Goal (sym p.0) (other more p.1)

  pub found_all : (n : ℕ) (xs : List Name) → ((x : Name) → Among x xs → x.node < n) → find (before n) xs ≡ find t xs
  found_all n [] h = refl
  found_all n (x ∷ xs) h = ap (λ b. cond b (Some x) (find (before n) xs)) (on (t x) (nat_lt x.node n) (low x.node (h x (inl refl)))) ∙ ap (λ o. cond (t x) (Some x) o) (found_all n xs (λ y i. h y (inr i)))
    where
      low : (k : ℕ) → k < n → nat_lt k n ≡ true
      low k less = grind (arith, less)

      on : (a b : Bool) → b ≡ true → (a && b) ≡ a
      on true b e = e
      on false b e = refl

  pub none_found : (xs : List Name) → is_some (find (before 0) xs) ≡ false
  none_found xs = none_past 0 xs (λ x i. omega arith)
