-- The lists of writes and of made values, as they grow.
use Rattle.std.proofs.Common.{◌≡◌, ℕ, zero, suc, ◌<◌, ◌≤◌, ◌==◌, ◌&&◌, ◌⊎◌, inl, inr, Bool, true, false, cond, List, [], ◌∷◌, ◌++◌, length, Option, Some, None, refl, sym, ap, ◌∙◌, subst, arith}
use Rattle.std.proofs.lemmas.Bool.Decides.{nat_tests}
use Rattle.ssa_core.specs.declared.places.Place.{Place}
use Rattle.ssa_core.specs.declared.notes.Write.{Write}
use Rattle.ssa_core.specs.declared.notes.BlockState.{BlockState}
use Rattle.ssa_core.specs.Places.{found, Puts}
use Rattle.ssa_core.specs.Known.{last_write, later_of, indices_from, indices_in, sealed_in}
use Rattle.std.specs.Option.{option_map, unwrap_or}
use Rattle.std.specs.Prelude.{map}
use Rattle.std.specs.List.{slice_get}
use Rattle.ssa_core.specs.Kept.{Indexes, IsExtended}
use Rattle.std.proofs.lemmas.Option.{slice_get_past, slice_get-map}
use Rattle.std.proofs.lemmas.Bool.{cases_lt}

none_is_not_some : {X : Type 0} (x : X) → None ≡ Some x → ⊥
none_is_not_some x e = grind arith

later_assoc : {X : Type 0} (a b c : Option X) → later_of (later_of a b) c ≡ later_of a (later_of b c)
later_assoc a b None = refl
later_assoc a b (Some x) = refl

later_none : {X : Type 0} (a : Option X) → later_of None a ≡ a
later_none None = refl
later_none (Some x) = refl

module _ {V : Type 0} where
  pub no_indexes : Indexes {V = V} [] [] [] []
  unfolding found last_write
  no_indexes = record {
    last = λ var block. refl;
    lists = λ block state h. absurd (none_is_not_some state h);
    within = λ index place value h. absurd (none_is_not_some (place, value) h);
  }

  unfoldable pub of_write : Write V → ℕ → ℕ → Option V
  of_write w var block = cond ((var == w.var) && (block == w.block)) (Some w.value) None

  pub last_write_push : (ws : List (Write V)) (w : Write V) (var block : ℕ)
      → last_write (ws ++ w ∷ []) var block ≡ later_of (last_write ws var block) (of_write w var block)
  unfolding last_write of_write
  last_write_push [] w var block = sym (later_none (of_write w var block))
  last_write_push (x ∷ ws) w var block =
      ap (λ o. later_of (of_write x var block) o) (last_write_push ws w var block)
      ∙ sym (later_assoc (of_write x var block) (last_write ws var block) (of_write w var block))

  -- the table takes the write as the list does
  last_kept : (ws : List (Write V)) (w : Write V) (written new : List (Place × V))
      → ((var block : ℕ) → found written var block ≡ last_write ws var block) → Puts written new w.var w.block w.value
      → (var block : ℕ) → found new var block ≡ later_of (last_write ws var block) (of_write w var block)
  unfolding of_write
  last_kept ws w written new kept puts var block = by (var == w.var) refl (block == w.block) refl
    where
      other : ((var == w.var) && (block == w.block)) ≡ false → (var ≡ w.var → block ≡ w.block → ⊥) → found new var block ≡ later_of (last_write ws var block) (of_write w var block)
      other t differs =
          puts.others var block differs ∙ kept var block
          ∙ sym (ap (λ b. later_of (last_write ws var block) (cond b (Some w.value) None)) t)

      by : (t : Bool) → (var == w.var) ≡ t → (u : Bool) → (block == w.block) ≡ u → found new var block ≡ later_of (last_write ws var block) (of_write w var block)
      by false e u f = other (ap (λ t. t && (block == w.block)) e) (λ x y. absurd (grind (arith, nat_tests, e, x)))
      by true e false f = other (ap (λ t. t && (block == w.block)) e ∙ f) (λ x y. absurd (grind (arith, nat_tests, f, y)))
      by true e true f =
          let same_var : var ≡ w.var = grind (arith, nat_tests, e) in
          let same_block : block ≡ w.block = grind (arith, nat_tests, f) in
          (ap (λ x. found new x block) same_var ∙ ap (λ b. found new w.var b) same_block ∙ puts.here)
          ∙ sym (ap (λ b. later_of (last_write ws var block) (cond (b && (block == w.block)) (Some w.value) None)) e
          ∙ ap (λ b. later_of (last_write ws var block) (cond b (Some w.value) None)) f)

  pub writes_kept : (ws : List (Write V)) (w : Write V) (written new made : List (Place × V)) (blocks : List BlockState)
      → Indexes ws written made blocks → Puts written new w.var w.block w.value → Indexes (ws ++ w ∷ []) new made blocks
  writes_kept ws w written new made blocks kept puts = record {
    last = λ var block. last_kept ws w written new kept.last puts var block ∙ sym (last_write_push ws w var block);
    lists = kept.lists;
    within = kept.within;
  }

  pub no_indexes_at : (ws : List (Write V)) (written made : List (Place × V)) (blocks : List BlockState)
      → ws ≡ [] → written ≡ [] → made ≡ [] → blocks ≡ [] → Indexes ws written made blocks
  no_indexes_at ws written made blocks a b c d =
      subst (λ x. Indexes x written made blocks) (sym a)
      (subst (λ x. Indexes [] x made blocks) (sym b)
      (subst (λ x. Indexes [] [] x blocks) (sym c)
      (subst (λ x. Indexes {V = V} [] [] [] x) (sym d) no_indexes)))

-- ---- the states of blocks

pub not_extended : (xs : List BlockState) → IsExtended xs xs
not_extended xs = record {
  longer = omega arith;
  same = λ block less. refl;
  fresh = λ block state past at. absurd (none_is_not_some state (sym (slice_get_past xs block past) ∙ at));
}

push_same : {X : Type 0} (xs : List X) (x : X) (i : ℕ) → i < length xs → slice_get (xs ++ x ∷ []) i ≡ slice_get xs i
push_same [] x i less = absurd (omega (arith, less))
push_same (y ∷ ys) x zero less = refl
push_same (y ∷ ys) x (suc i) less = push_same ys x i (omega (arith, less))

push_last : {X : Type 0} (xs : List X) (x y : X) (i : ℕ) → length xs ≤ i → slice_get (xs ++ x ∷ []) i ≡ Some y → x ≡ y
push_last [] x y zero past at = grind (arith, at)
push_last [] x y (suc i) past at = absurd (none_is_not_some y at)
push_last (z ∷ zs) x y zero past at = absurd (omega (arith, past))
push_last (z ∷ zs) x y (suc i) past at = push_last zs x y i (omega (arith, past)) at

push_length : {X : Type 0} (xs : List X) (x : X) → length (xs ++ x ∷ []) ≡ suc (length xs)
push_length [] x = refl
push_length (y ∷ ys) x = ap suc (push_length ys x)

pub extended_by : (old xs : List BlockState) (x : BlockState) → x.is_sealed ≡ false → x.made.items ≡ [] → IsExtended old xs → IsExtended old (xs ++ x ∷ [])
extended_by old xs x unsealed none ext = record {
  longer = omega (arith, ext.longer, push_length xs x);
  same = λ block less. push_same xs x block (omega (arith, less, ext.longer)) ∙ ext.same block less;
  fresh = λ block state past at. fresh block state past at (cases_lt block (length xs));
}
  where
    fresh : (block : ℕ) (state : BlockState) → length old ≤ block → slice_get (xs ++ x ∷ []) block ≡ Some state
        → (block < length xs) ⊎ (length xs ≤ block) → (state.is_sealed ≡ false) × (state.made.items ≡ [])
    fresh block state past at (inl less) = ext.fresh block state past (sym (push_same xs x block less) ∙ at)
    fresh block state past at (inr le) =
        let same = push_last xs x state block le at in
        (ap (λ s. s.is_sealed) (sym same) ∙ unsealed, ap (λ s. s.made.items) (sym same) ∙ none)

module _ {V : Type 0} where
  -- nothing was made in a block that is beyond all
  none_made : (next : ℕ) (made : List (Place × V)) (block : ℕ)
      → ((index : ℕ) (place : Place) (value : V) → slice_get made index ≡ Some (place, value) → place.block < block) → indices_from next made block ≡ []
  unfolding indices_from
  none_made next [] block below = refl
  none_made next (e ∷ es) block below =
      let less = below 0 e.0 e.1 refl in
      let differs : (block == e.0.block) ≡ false = grind (arith, nat_tests, less) in
      ap (λ b. cond b (next ∷ indices_from (suc next) es block) (indices_from (suc next) es block)) differs
      ∙ none_made (suc next) es block (λ index place value at. below (suc index) place value at)

  pub extended_kept : (ws : List (Write V)) (written made : List (Place × V)) (old new : List BlockState)
      → Indexes ws written made old → IsExtended old new → Indexes ws written made new
  extended_kept ws written made old new kept ext = record {
    last = kept.last;
    lists = λ block state at. lists block state at (cases_lt block (length old));
    within = λ index place value at. omega (arith, kept.within index place value at, ext.longer);
  }
    where
      lists : (block : ℕ) (state : BlockState) → slice_get new block ≡ Some state → (block < length old) ⊎ (length old ≤ block) → state.made.items ≡ indices_in made block
      lists block state at (inl less) = kept.lists block state (sym (ext.same block less) ∙ at)
      lists block state at (inr past) =
          (ext.fresh block state past at).1
          ∙ sym (none_made 0 made block (λ index place value is. omega (arith, kept.within index place value is, past)))

unfoldable pub is_flagged : Option BlockState → Bool
is_flagged found = unwrap_or (option_map (λ b. b.is_sealed) found) false

pub flag_at : (xs : List BlockState) (block : ℕ) → sealed_in (map (λ b. b.is_sealed) xs) block ≡ is_flagged (slice_get xs block)
unfolding is_flagged
flag_at xs block = ap (λ o. unwrap_or o false) (slice_get-map (λ b. b.is_sealed) xs block)

pub extended_sealed : (old new : List BlockState) → IsExtended old new → (block : ℕ)
    → sealed_in (map (λ b. b.is_sealed) new) block ≡ sealed_in (map (λ b. b.is_sealed) old) block
unfolding is_flagged
extended_sealed old new ext block = flag_at new block ∙ by (cases_lt block (length old)) ∙ sym (flag_at old block)
  where
    past : length old ≤ block → (o : Option BlockState) → slice_get new block ≡ o → is_flagged o ≡ false
    past le None e = refl
    past le (Some state) e = (ext.fresh block state le e).0

    by : (block < length old) ⊎ (length old ≤ block) → is_flagged (slice_get new block) ≡ is_flagged (slice_get old block)
    by (inl less) = ap is_flagged (ext.same block less)
    by (inr le) = past le (slice_get new block) refl ∙ sym (ap is_flagged (slice_get_past old block le))
