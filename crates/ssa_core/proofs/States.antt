-- The states of blocks, as one of them changes.
use Rattle.std.proofs.Common.{◌≡◌, ℕ, zero, suc, ◌+◌, ◌-◌, ◌<◌, ◌==◌, ◌⊎◌, inl, inr, Bool, true, false, cond, List, [], ◌∷◌, ◌++◌, length, get_or, take, Some, refl, sym, ap, ◌∙◌, subst, arith}
use Rattle.std.proofs.lemmas.Bool.{cases_eq}
use Rattle.std.proofs.lemmas.Bool.Decides.{nat_tests}
use Rattle.std.proofs.lemmas.List.{length-set, length-append, length-map}
use Rattle.std.proofs.Math.Seq.{take-append_seam}
use Rattle.std.proofs.lemmas.Option.{slice_get-get_or}
use Rattle.std.specs.Prelude.{set, map}
use Rattle.std.specs.List.{slice_get, AllZip}
use Rattle.ssa_core.specs.declared.places.Place.{Place}
use Rattle.ssa_core.specs.declared.notes.Write.{Write}
use Rattle.ssa_core.specs.declared.notes.BlockState.{BlockState}
use Rattle.ssa_core.specs.Places.{place}
use Rattle.ssa_core.specs.Known.{indices_from, indices_in, sealed_in}
use Rattle.ssa_core.specs.Kept.{Indexes, ChangesAt, IsListed, IsUnlisted, IsSealed, IsAlike}
use Rattle.ssa_core.proofs.Lookups.{flag_at, is_flagged}

some_same : {X : Type 0} (x y : X) → Some x ≡ Some y → x ≡ y
some_same x y e = grind (arith, e)

set_same : {X : Type 0} (xs : List X) (i : ℕ) (y : X) → i < length xs → slice_get (set xs i y) i ≡ Some y
set_same [] i y less = absurd (omega (arith, less))
set_same (x ∷ xs) zero y less = refl
set_same (x ∷ xs) (suc i) y less = set_same xs i y (omega (arith, less))

set_other : {X : Type 0} (xs : List X) (i j : ℕ) (y : X) → (j ≡ i → ⊥) → slice_get (set xs i y) j ≡ slice_get xs j
set_other [] i j y differs = refl
set_other (x ∷ xs) zero zero y differs = absurd (differs refl)
set_other (x ∷ xs) zero (suc j) y differs = refl
set_other (x ∷ xs) (suc i) zero y differs = refl
set_other (x ∷ xs) (suc i) (suc j) y differs = set_other xs i j y (λ e. differs (ap suc e))

pub changes_at : (change : BlockState → BlockState → Type 0) (xs : List BlockState) (i : ℕ) (x y : BlockState) → i < length xs
    → x ≡ get_or xs i x → change x y → ChangesAt change xs (set xs i y) i
changes_at change xs i x y less at changes = record {
  same_length = length-set xs i y;
  before = x;
  was = slice_get-get_or xs i x less ∙ ap Some (sym at);
  after = y;
  is = set_same xs i y less;
  changes = changes;
  others = λ b differs. set_other xs i b y differs;
}

-- ---- what a change keeps

append_nil : {X : Type 0} (xs : List X) → xs ++ [] ≡ xs
append_nil [] = refl
append_nil (x ∷ xs) = ap (λ ys. x ∷ ys) (append_nil xs)

eq_true : (n : ℕ) → (n == n) ≡ true
eq_true n = grind (arith, nat_tests)

eq_false : (m n : ℕ) → (m ≡ n → ⊥) → (m == n) ≡ false
eq_false m n d = grind (arith, nat_tests, d)

zero_plus : (n : ℕ) → 0 + n ≡ n
zero_plus n = omega arith

sums : (m n : ℕ) → suc m + n ≡ m + suc n
sums m n = omega arith

pub take_front : (rest items : List ℕ) (index n : ℕ) → items ≡ rest ++ index ∷ [] → n ≡ length items → take (n - 1) items ≡ rest
take_front rest items index n is size = ap (λ m. take m items) (omega (arith, size, ap (λ xs. length xs) is, length-append rest (index ∷ []))) ∙ ap (λ xs. take (length rest) xs) is ∙ take-append_seam rest (index ∷ [])

module _ {V : Type 0} where
  -- where the list of indices at the block is what it is to be
  pub indexes_changed : (change : BlockState → BlockState → Type 0) (ws : List (Write V)) (written made new_made : List (Place × V)) (old new : List BlockState) (block : ℕ)
      → Indexes ws written made old → (c : ChangesAt change old new block)
      → c.after.made.items ≡ indices_in new_made block
      → ((b : ℕ) → (b ≡ block → ⊥) → indices_in new_made b ≡ indices_in made b)
      → ((index : ℕ) (place : Place) (value : V) → slice_get new_made index ≡ Some (place, value) → place.block < length old)
      → Indexes ws written new_made new
  indexes_changed change ws written made new_made old new block kept c lists rest within = record {
    last = kept.last;
    lists = λ b state at. by b state at (cases_eq b block);
    within = λ index place value at. omega (arith, within index place value at, c.same_length);
  }
    where
      by : (b : ℕ) (state : BlockState) → slice_get new b ≡ Some state → (b ≡ block) ⊎ (b ≡ block → ⊥) → state.made.items ≡ indices_in new_made b
      by b state at (inl e) =
          let same : state ≡ c.after = some_same state c.after (sym at ∙ ap (λ x. slice_get new x) e ∙ c.is) in
          ap (λ s. s.made.items) same ∙ lists ∙ ap (λ x. indices_in new_made x) (sym e)
      by b state at (inr d) = kept.lists b state (sym (c.others b d) ∙ at) ∙ sym (rest b d)

  pub indexes_same : (change : BlockState → BlockState → Type 0) (ws : List (Write V)) (written made : List (Place × V)) (old new : List BlockState) (block : ℕ)
      → Indexes ws written made old → (c : ChangesAt change old new block) → c.after.made.items ≡ c.before.made.items → Indexes ws written made new
  indexes_same change ws written made old new block kept c same =
      indexes_changed change ws written made made old new block kept c (same ∙ kept.lists block c.before c.was) (λ b d. refl) kept.within

  indices_push : (next : ℕ) (made : List (Place × V)) (home : Place) (value : V) (block : ℕ)
      → indices_from next (made ++ (home, value) ∷ []) block
      ≡ indices_from next made block ++ cond (block == home.block) ((next + length made) ∷ []) []
  unfolding indices_from
  indices_push next [] home value block = by (block == home.block)
    where
      by : (t : Bool) → cond t (next ∷ []) [] ≡ cond t ((next + 0) ∷ []) []
      by true = ap (λ n. n ∷ []) (omega arith)
      by false = refl
  indices_push next (e ∷ es) home value block = by (block == e.0.block) (later (indices_push (suc next) es home value block))
    where
      later : indices_from (suc next) (es ++ (home, value) ∷ []) block ≡ indices_from (suc next) es block ++ cond (block == home.block) ((suc next + length es) ∷ []) []
          → (indices_from (suc next) (es ++ (home, value) ∷ []) block ≡ indices_from (suc next) es block ++ cond (block == home.block) ((next + length (e ∷ es)) ∷ []) [])
      later h = h ∙ ap (λ n. indices_from (suc next) es block ++ cond (block == home.block) (n ∷ []) []) (sums next (length es))

      by : (t : Bool) → (indices_from (suc next) (es ++ (home, value) ∷ []) block ≡ indices_from (suc next) es block ++ cond (block == home.block) ((next + length (e ∷ es)) ∷ []) [])
          → cond t (next ∷ indices_from (suc next) (es ++ (home, value) ∷ []) block) (indices_from (suc next) (es ++ (home, value) ∷ []) block)
          ≡ cond t (next ∷ indices_from (suc next) es block) (indices_from (suc next) es block) ++ cond (block == home.block) ((next + length (e ∷ es)) ∷ []) []
      by true h = ap (λ xs. next ∷ xs) h
      by false h = h

  push_cases : (made : List (Place × V)) (home : Place) (value : V) (index : ℕ) (x : Place) (u : V)
      → slice_get (made ++ (home, value) ∷ []) index ≡ Some (x, u) → (slice_get made index ≡ Some (x, u)) ⊎ (x ≡ home)
  push_cases [] home value zero x u e = inr (ap (λ p. p.0) (sym (some_same (home, value) (x, u) e)))
  push_cases [] home value (suc index) x u e = absurd (grind (arith, e))
  push_cases (f ∷ made) home value zero x u e = inl e
  push_cases (f ∷ made) home value (suc index) x u e = push_cases made home value index x u e

  -- a value is made, and its index is listed
  pub indexes_made : (ws : List (Write V)) (written made : List (Place × V)) (old new : List BlockState) (var block : ℕ) (value : V)
      → Indexes ws written made old → block < length old → ChangesAt (IsListed (length made)) old new block
      → Indexes ws written (made ++ (place var block, value) ∷ []) new
  indexes_made ws written made old new var block value kept less c =
      indexes_changed (IsListed (length made)) ws written made (made ++ (place var block, value) ∷ []) old new block kept c
      (c.changes.lists ∙ ap (λ xs. xs ++ length made ∷ []) (kept.lists block c.before c.was) ∙ sym here)
      others
      (λ index x u at. within index x u (push_cases made (place var block) value index x u at))
    where
      here : indices_in (made ++ (place var block, value) ∷ []) block ≡ indices_in made block ++ length made ∷ []
      here =
          indices_push 0 made (place var block) value block
          ∙ ap (λ t. indices_in made block ++ cond t ((0 + length made) ∷ []) []) (eq_true block)
          ∙ ap (λ n. indices_in made block ++ n ∷ []) (zero_plus (length made))

      others : (b : ℕ) → (b ≡ block → ⊥) → indices_in (made ++ (place var block, value) ∷ []) b ≡ indices_in made b
      others b d =
          indices_push 0 made (place var block) value b
          ∙ ap (λ t. indices_in made b ++ cond t ((0 + length made) ∷ []) []) (eq_false b block d)
          ∙ append_nil (indices_in made b)

      within : (index : ℕ) (x : Place) (u : V) → (slice_get made index ≡ Some (x, u)) ⊎ (x ≡ place var block) → x.block < length old
      within index x u (inl at) = kept.within index x u at
      within index x u (inr e) = subst (λ b. b < length old) (sym (ap (λ p. p.block) e)) less

  -- the index was listed, and is taken back
  pub indexes_back : (ws : List (Write V)) (written made : List (Place × V)) (old listed new : List BlockState) (block index : ℕ)
      → Indexes ws written made old → ChangesAt (IsListed index) old listed block → ChangesAt IsUnlisted listed new block → Indexes ws written made new
  indexes_back ws written made old listed new block index kept c d =
      indexes_changed IsAlike ws written made made old new block kept
      (record {
        same_length = d.same_length ∙ c.same_length;
        before = c.before;
        was = c.was;
        after = d.after;
        is = d.is;
        changes = record {
          flag = d.changes.flag ∙ ap (λ s. s.is_sealed) same ∙ c.changes.flag;
          lists = lists;
        };
        others = λ b e. d.others b e ∙ c.others b e;
      })
      (lists ∙ kept.lists block c.before c.was) (λ b e. refl) kept.within
    where
      same : d.before ≡ c.after
      same = some_same d.before c.after (sym d.was ∙ c.is)

      lists : d.after.made.items ≡ c.before.made.items
      lists = d.changes.lists c.before.made.items index (ap (λ s. s.made.items) same ∙ c.changes.lists)

-- ---- which blocks are sealed

pub flags_same : (change : BlockState → BlockState → Type 0) (old new : List BlockState) (block : ℕ) → (c : ChangesAt change old new block)
    → c.after.is_sealed ≡ c.before.is_sealed → (b : ℕ)
    → sealed_in (map (λ s. s.is_sealed) new) b ≡ sealed_in (map (λ s. s.is_sealed) old) b
unfolding is_flagged
flags_same change old new block c same b = flag_at new b ∙ by (cases_eq b block) ∙ sym (flag_at old b)
  where
    by : (b ≡ block) ⊎ (b ≡ block → ⊥) → is_flagged (slice_get new b) ≡ is_flagged (slice_get old b)
    by (inl e) =
        ap is_flagged (ap (λ x. slice_get new x) e ∙ c.is) ∙ same
        ∙ sym (ap is_flagged (ap (λ x. slice_get old x) e ∙ c.was))
    by (inr d) = ap is_flagged (c.others b d)

pub flag_sealed : (old new : List BlockState) (block : ℕ) → ChangesAt IsSealed old new block → sealed_in (map (λ s. s.is_sealed) new) block ≡ true
unfolding is_flagged
flag_sealed old new block c = flag_at new block ∙ ap is_flagged c.is ∙ c.changes.flag

pub flags_other : (change : BlockState → BlockState → Type 0) (old new : List BlockState) (block b : ℕ) → ChangesAt change old new block → (b ≡ block → ⊥)
    → sealed_in (map (λ s. s.is_sealed) new) b ≡ sealed_in (map (λ s. s.is_sealed) old) b
unfolding is_flagged
flags_other change old new block b c d = flag_at new b ∙ ap is_flagged (c.others b d) ∙ sym (flag_at old b)

pub below_states : (states : List BlockState) (flags : List Bool) (block : ℕ) → map (λ s. s.is_sealed) states ≡ flags → block < length flags → block < length states
below_states states flags block same less = omega (arith, less, ap (λ xs. length xs) same, length-map states (λ s. s.is_sealed))

pub copied : (xs ys : List ℕ) → AllZip (λ x y. y ≡ x) xs ys → ys ≡ xs
copied [] [] all = refl
copied [] (y ∷ ys) all = absurd all
copied (x ∷ xs) [] all = absurd all
copied (x ∷ xs) (y ∷ ys) all = ap (λ z. z ∷ ys) all.0 ∙ ap (λ zs. x ∷ zs) (copied xs ys all.1)
