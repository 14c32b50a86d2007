-- Counts of names that stand in the order of their nodes.
use Rattle.std.proofs.Common.{◌≡◌, ◌≢◌, ◌⊎◌, inl, inr, ℕ, ◌+◌, ◌<◌, ◌≤◌, Bool, true, false, ◌&&◌, cond, List, [], ◌∷◌, ◌++◌, length, length-append, Option, Some, None, refl, sym, ap, ap₂, ◌∙◌, subst, arith}
use Rattle.std.specs.Prelude.{filter, find, nat_eq, nat_le, nat_lt, not, position, ◌==◌}
use Rattle.std.specs.List.{prefix_len}
use Rattle.std.proofs.lemmas.Bool.Decides.{eqb_tells}
use Rattle.c_typing.specs.Names.{Name}
use Rattle.c_names.specs.Denoted.{Among}
use Rattle.c_names.proofs.ChainLaws.{Ascend, all_among}

abbrev pub one : Bool → ℕ
one b = cond b 1 0

abbrev pub count : (Name → Bool) → List Name → ℕ
count t xs = length (filter t xs)

-- one name more in front
pub count_front : (t : Name → Bool) (x : Name) (xs : List Name) → count t (x ∷ xs) ≡ one (t x) + count t xs
count_front t x xs = by (t x)
  where
    by : (b : Bool) → length (cond b (x ∷ filter t xs) (filter t xs)) ≡ one b + length (filter t xs)
    by true = omega arith
    by false = omega arith

-- two tests that agree on all names
pub count_same : (t u : Name → Bool) (xs : List Name) → ((x : Name) → Among x xs → t x ≡ u x) → count t xs ≡ count u xs
count_same t u [] same = refl
count_same t u (x ∷ xs) same =
    let more = count_same t u xs (λ y i. same y (inr i)) in
    count_front t x xs ∙ (ap (λ n. one (t x) + n) more ∙ (ap (λ b. one b + count u xs) (same x (inl refl)) ∙ sym (count_front u x xs)))

-- a test that is one of two others, which exclude each other
pub count_sum : (t u v : Name → Bool) (xs : List Name) → ((x : Name) → one (t x) ≡ one (u x) + one (v x)) → count t xs ≡ count u xs + count v xs
count_sum t u v [] sum = omega arith
count_sum t u v (x ∷ xs) sum =
    let a = count_front t x xs in
    let b = count_front u x xs in
    let c = count_front v x xs in
    let d = sum x in
    let e = count_sum t u v xs sum in
    omega (arith, a, b, c, d, e)

not_own : (n : ℕ) → nat_lt n n ≡ false
not_own n = grind arith

and_no : (a b : Bool) → b ≡ false → (a && b) ≡ false
and_no true b e = e
and_no false b e = refl

and_yes : (a b : Bool) → b ≡ true → (a && b) ≡ a
and_yes true b e = e
and_yes false b e = refl

pub filter_none : (test : Name → Bool) (xs : List Name) → ((x : Name) → Among x xs → test x ≡ false) → filter test xs ≡ []
filter_none test [] h = refl
filter_none test (x ∷ xs) h = ap (λ b. cond b (x ∷ filter test xs) (filter test xs)) (h x (inl refl)) ∙ filter_none test xs (λ y i. h y (inr i))

-- ---- the test of the names before a node

module _ (t : Name → Bool) where
  abbrev pub before : ℕ → Name → Bool
  before n x = t x && nat_lt x.node n

  abbrev pub between : ℕ → ℕ → Name → Bool
  between from to x = t x && (nat_le from x.node && nat_le x.node to)

  pub none_before : (xs : List Name) → count (before 0) xs ≡ 0
  none_before [] = refl
  none_before (x ∷ xs) =
      let a = count_front (before 0) x xs in
      let b : one (before 0 x) ≡ 0 = by (t x) (nat_lt x.node 0) (less x.node) in
      let c = none_before xs in
      omega (arith, a, b, c)
    where
      less : (n : ℕ) → nat_lt n 0 ≡ false
      less n = grind arith

      by : (a b : Bool) → b ≡ false → one (a && b) ≡ 0
      by true b e = ap one e
      by false b e = refl

  -- those up to a node are those before another one and those from it on
  pub parts : (from to : ℕ) (xs : List Name) → from ≤ to + 1 → count (before (to + 1)) xs ≡ count (before from) xs + count (between from to) xs
  parts from to xs low = count_sum (before (to + 1)) (before from) (between from to) xs (λ x. by (t x) x.node)
    where
      by : (b : Bool) (n : ℕ) → one (b && nat_lt n (to + 1)) ≡ one (b && nat_lt n from) + one (b && (nat_le from n && nat_le n to))
      by false n = omega arith
      by true n = tests n (nat_lt n (to + 1)) refl (nat_lt n from) refl (nat_le from n) refl (nat_le n to) refl
        where
          tests : (n : ℕ) (a : Bool) → nat_lt n (to + 1) ≡ a → (b : Bool) → nat_lt n from ≡ b → (c : Bool) → nat_le from n ≡ c → (d : Bool) → nat_le n to ≡ d → one a ≡ one b + one (c && d)
          tests n a e b f c g d h = grind (arith, low)

  -- those before a node in a span, and those before the span
  pub split : (from to n : ℕ) (xs : List Name) → from ≤ n → n ≤ to → count (before n) xs ≡ count (before from) xs + count (λ x. between from to x && nat_lt x.node n) xs
  split from to n xs low high = count_sum (before n) (before from) (λ x. between from to x && nat_lt x.node n) xs (λ x. by (t x) x.node)
    where
      by : (b : Bool) (k : ℕ) → one (b && nat_lt k n) ≡ one (b && nat_lt k from) + one ((b && (nat_le from k && nat_le k to)) && nat_lt k n)
      by false k = omega arith
      by true k = tests k (nat_lt k n) refl (nat_lt k from) refl (nat_le from k) refl (nat_le k to) refl
        where
          tests : (k : ℕ) (a : Bool) → nat_lt k n ≡ a → (b : Bool) → nat_lt k from ≡ b → (c : Bool) → nat_le from k ≡ c → (d : Bool) → nat_le k to ≡ d → one a ≡ one b + one ((c && d) && a)
          tests k a e b f c g d h = grind (arith, low, high)

  -- ---- in order

  abbrev pub tells : Option Name → Bool
  tells None = false
  tells (Some e) = t e

  abbrev pub listed : Option Name → List Name
  listed None = []
  listed (Some e) = cond (t e) (e ∷ []) []

  -- those that stand before one node more
  pub filter_more : (i : ℕ) (xs : List Name) → Ascend xs → filter (before (i + 1)) xs ≡ filter (before i) xs ++ listed (find (λ e. e.node == i) xs)
  filter_more i [] s = refl
  filter_more i (x ∷ xs) s = by (filter_more i xs s.1) (eqb_tells x.node i)
    where
      later : (y : Name) → Among y xs → x.node < y.node
      later y j = all_among (λ (z : Name). x.node < z.node) xs s.0 y j

      Goal : Bool → Type 0
      Goal b = filter (before (i + 1)) (x ∷ xs) ≡ filter (before i) (x ∷ xs) ++ listed (cond b (Some x) (find (λ e. e.node == i) xs))

      here : x.node ≡ i → Goal true
      here at =
          let own : before (i + 1) x ≡ t x = and_yes (t x) (nat_lt x.node (i + 1)) (ap (λ n. nat_lt n (i + 1)) at ∙ up i) in
          let not_yet : before i x ≡ false = and_no (t x) (nat_lt x.node i) (ap (λ n. nat_lt n i) at ∙ not_own i) in
          let none : filter (before (i + 1)) xs ≡ [] = filter_none (before (i + 1)) xs (λ y j. and_no (t y) (nat_lt y.node (i + 1)) (past y.node (later y j))) in
          let none_yet : filter (before i) xs ≡ [] = filter_none (before i) xs (λ y j. and_no (t y) (nat_lt y.node i) (past_too y.node (later y j))) in
          ap₂ (λ b ys. cond b (x ∷ ys) ys) own none ∙ sym (ap₂ (λ b ys. cond b (x ∷ ys) ys ++ cond (t x) (x ∷ []) []) not_yet none_yet)
        where
          up : (n : ℕ) → nat_lt n (n + 1) ≡ true
          up n = grind arith

          past : (n : ℕ) → x.node < n → nat_lt n (i + 1) ≡ false
          past n less = grind (arith, at, less)

          past_too : (n : ℕ) → x.node < n → nat_lt n i ≡ false
          past_too n less = grind (arith, at, less)

      other : filter (before (i + 1)) xs ≡ filter (before i) xs ++ listed (find (λ e. e.node == i) xs) → x.node ≢ i → Goal false
      other more differs = ap (λ b. cond b (x ∷ filter (before (i + 1)) xs) (filter (before (i + 1)) xs)) (ap (λ k. t x && k) (next_less x.node i differs)) ∙ tail (before i x) more
        where
          next_less : (a n : ℕ) → (a ≡ n → ⊥) → nat_lt a (n + 1) ≡ nat_lt a n
          next_less a n h = grind arith

          tail : (b : Bool) → filter (before (i + 1)) xs ≡ filter (before i) xs ++ listed (find (λ e. e.node == i) xs)
              → cond b (x ∷ filter (before (i + 1)) xs) (filter (before (i + 1)) xs) ≡ cond b (x ∷ filter (before i) xs) (filter (before i) xs) ++ listed (find (λ e. e.node == i) xs)
          tail true h = ap (λ ys. x ∷ ys) h
          tail false h = h

      by : filter (before (i + 1)) xs ≡ filter (before i) xs ++ listed (find (λ e. e.node == i) xs) → ((nat_eq x.node i ≡ true) × (x.node ≡ i)) ⊎ ((nat_eq x.node i ≡ false) × (x.node ≢ i)) → Goal (nat_eq x.node i)
      by more (inl p) = subst Goal (sym p.0) (here p.1)
      by more (inr p) = subst Goal (sym p.0) (other more p.1)

  pub one_more : (i : ℕ) (xs : List Name) → Ascend xs → count (before (i + 1)) xs ≡ count (before i) xs + one (tells (find (λ e. e.node == i) xs))
  one_more i xs s = ap length (filter_more i xs s) ∙ (length-append (filter (before i) xs) (listed (find (λ e. e.node == i) xs)) ∙ ap (λ n. count (before i) xs + n) (many (find (λ e. e.node == i) xs)))
    where
      many : (o : Option Name) → length (listed o) ≡ one (tells o)
      many None = refl
      many (Some e) = by (t e)
        where
          by : (b : Bool) → length (cond b (e ∷ []) []) ≡ one b
          by true = refl
          by false = refl

  -- ---- the place of a name among those that pass

  abbrev apart : Name → Name → Bool
  apart e x = not (x.node == e.node)

  same_node : (n : ℕ) → (n == n) ≡ true
  same_node n = grind arith

  less_apart : (a b : ℕ) → a < b → (a == b) ≡ false
  less_apart a b h = grind arith

  so_less : (a b : ℕ) → a < b → nat_lt a b ≡ true
  so_less a b h = grind arith

  not_less : (a b : ℕ) → a < b → nat_lt b a ≡ false
  not_less a b h = grind arith

  place : (e : Name) (xs : List Name) → Ascend xs → Among e xs → t e ≡ true → (prefix_len (apart e) (filter t xs) ≡ count (before e.node) xs) × (count (before e.node) xs < count t xs)
  place e [] s i passes = absurd i
  place e (x ∷ xs) s (inl same) passes =
      let p : t x ≡ true = ap t same ∙ passes in
      let shown : prefix_len (apart e) (filter t (x ∷ xs)) ≡ 0 =
      ap (λ b. prefix_len (apart e) (cond b (x ∷ filter t xs) (filter t xs))) p
      ∙ ap (λ b. cond (not b) (1 + prefix_len (apart e) (filter t xs)) 0) (ap (λ (y : Name). y.node == e.node) same ∙ same_node e.node) in
      let a = count_front (before e.node) x xs in
      let b : one (before e.node x) ≡ 0 = ap one (and_no (t x) (nat_lt x.node e.node) (ap (λ (y : Name). nat_lt y.node e.node) same ∙ not_own e.node)) in
      let c : count (before e.node) xs ≡ 0 = none xs (λ y i. subst (λ (z : Name). z.node < y.node) same (all_among (λ (z : Name). x.node < z.node) xs s.0 y i)) in
      let d = count_front t x xs in
      let f : one (t x) ≡ 1 = ap one p in
      (omega (arith, shown, a, b, c), omega (arith, a, b, c, d, f))
    where
      none : (ys : List Name) → ((y : Name) → Among y ys → e.node < y.node) → count (before e.node) ys ≡ 0
      none [] h = refl
      none (y ∷ ys) h =
          let a = count_front (before e.node) y ys in
          let b : one (before e.node y) ≡ 0 = ap one (and_no (t y) (nat_lt y.node e.node) (not_less e.node y.node (h y (inl refl)))) in
          let c = none ys (λ z i. h z (inr i)) in
          omega (arith, a, b, c)
  place e (x ∷ xs) s (inr i) passes =
      by (t x) refl (place e xs s.1 i passes)
    where
      less : x.node < e.node
      less = all_among (λ (z : Name). x.node < z.node) xs s.0 e i

      by : (b : Bool) → t x ≡ b → (prefix_len (apart e) (filter t xs) ≡ count (before e.node) xs) × (count (before e.node) xs < count t xs)
          → (prefix_len (apart e) (filter t (x ∷ xs)) ≡ count (before e.node) (x ∷ xs)) × (count (before e.node) (x ∷ xs) < count t (x ∷ xs))
      by true p more =
          let shown : prefix_len (apart e) (filter t (x ∷ xs)) ≡ 1 + prefix_len (apart e) (filter t xs) =
          ap (λ b. prefix_len (apart e) (cond b (x ∷ filter t xs) (filter t xs))) p
          ∙ ap (λ b. cond (not b) (1 + prefix_len (apart e) (filter t xs)) 0) (less_apart x.node e.node less) in
          let a = count_front (before e.node) x xs in
          let b : one (before e.node x) ≡ 1 = ap (λ k. one (k && nat_lt x.node e.node)) p ∙ ap one (so_less x.node e.node less) in
          let d = count_front t x xs in
          let f : one (t x) ≡ 1 = ap one p in
          let m = more.0 in
          let n = more.1 in
          (omega (arith, shown, a, b, m), omega (arith, a, b, d, f, n))
      by false p more =
          let shown : prefix_len (apart e) (filter t (x ∷ xs)) ≡ prefix_len (apart e) (filter t xs) = ap (λ b. prefix_len (apart e) (cond b (x ∷ filter t xs) (filter t xs))) p in
          let a = count_front (before e.node) x xs in
          let b : one (before e.node x) ≡ 0 = ap (λ k. one (k && nat_lt x.node e.node)) p in
          let d = count_front t x xs in
          let f : one (t x) ≡ 0 = ap one p in
          let m = more.0 in
          let n = more.1 in
          (omega (arith, shown, a, b, m), omega (arith, a, b, d, f, n))

  pub place_of : (e : Name) (xs : List Name) → Ascend xs → Among e xs → t e ≡ true → position (λ a. a.node == e.node) (filter t xs) ≡ Some (count (before e.node) xs)
  place_of e xs s i passes =
      let p = place e xs s i passes in
      ap (λ l. cond (nat_lt l (length (filter t xs))) (Some l) None) p.0 ∙ ap (λ b. cond b (Some (count (before e.node) xs)) None) (so_less (count (before e.node) xs) (count t xs) p.1)
