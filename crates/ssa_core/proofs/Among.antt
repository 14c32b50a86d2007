-- Where a found value stands in a list, and lists that grow at their end.
use Rattle.std.proofs.Common.{◌≡◌, ℕ, zero, suc, ◌<◌, ◌≤◌, ◌==◌, ◌&&◌, ◌⊎◌, inl, inr, Bool, true, false, cond, List, [], ◌∷◌, ◌++◌, length, Option, Some, None, refl, sym, ap, ◌∙◌, arith}
use Rattle.std.proofs.lemmas.Bool.Decides.{nat_tests}
use Rattle.std.specs.List.{slice_get}
use Rattle.ssa_core.specs.declared.places.Place.{Place}
use Rattle.ssa_core.specs.declared.notes.Write.{Write}
use Rattle.ssa_core.specs.Places.{found, place, is_place}
use Rattle.ssa_core.specs.Known.{last_write, later_of}

pub none_is_not_some : {X : Type 0} (x : X) → None ≡ Some x → ⊥
none_is_not_some x e = grind arith

pub some_same : {X : Type 0} (x y : X) → Some x ≡ Some y → x ≡ y
some_same x y e = grind (arith, e)

place_is : (var block : ℕ) (q : Place) → is_place var block q ≡ true → q ≡ place var block
place_is var block q e = by (var == q.var) refl (block == q.block) refl
  where
    by : (t : Bool) → (var == q.var) ≡ t → (u : Bool) → (block == q.block) ≡ u → q ≡ place var block
    by false d u f = absurd (grind (arith, e, ap (λ t. t && (block == q.block)) d))
    by true d false f = absurd (grind (arith, e, ap (λ t. t && (block == q.block)) d, f))
    by true d true f =
        let v : q.var ≡ var = grind (arith, nat_tests, d) in
        let b : q.block ≡ block = grind (arith, nat_tests, f) in
        ap (λ x. place x q.block) v ∙ ap (λ x. place var x) b

same_place : (var block : ℕ) → is_place var block (place var block) ≡ true
same_place var block = grind (arith, nat_tests)

-- ---- tables

pub record FoundAt {V : Type 0} (es : List (Place × V)) (var block : ℕ) (v : V) : Type 0 where
  pub index : ℕ
  pub is : slice_get es index ≡ Some (place var block, v)

module _ {V : Type 0} where
  pub found_at_index : (es : List (Place × V)) (var block : ℕ) (v : V) → found es var block ≡ Some v → FoundAt es var block v
  unfolding found
  found_at_index [] var block v e = absurd (none_is_not_some v e)
  found_at_index (f ∷ es) var block v e = by (is_place var block f.0) refl (λ h. found_at_index es var block v h)
    where
      by : (t : Bool) → is_place var block f.0 ≡ t → (found es var block ≡ Some v → FoundAt es var block v) → FoundAt (f ∷ es) var block v
      by true t more = record {
        index = 0;
        is =
            let here : f.1 ≡ v = some_same f.1 v (sym (ap (λ b. cond b (Some f.1) (found es var block)) t) ∙ e) in
            ap (λ p. Some (p, f.1)) (place_is var block f.0 t) ∙ ap (λ u. Some (place var block, u)) here;
      }
      by false t more =
          let later = more (sym (ap (λ b. cond b (Some f.1) (found es var block)) t) ∙ e) in
          record { index = suc later.index; is = later.is }

  pub found_kept : (es more : List (Place × V)) (var block : ℕ) (v : V) → found es var block ≡ Some v → found (es ++ more) var block ≡ Some v
  unfolding found
  found_kept [] more var block v e = absurd (none_is_not_some v e)
  found_kept (f ∷ es) more var block v e = by (is_place var block f.0) refl (λ h. found_kept es more var block v h)
    where
      by : (t : Bool) → is_place var block f.0 ≡ t → (found es var block ≡ Some v → found (es ++ more) var block ≡ Some v)
          → cond (is_place var block f.0) (Some f.1) (found (es ++ more) var block) ≡ Some v
      by true t later =
          ap (λ b. cond b (Some f.1) (found (es ++ more) var block)) t
          ∙ (sym (ap (λ b. cond b (Some f.1) (found es var block)) t) ∙ e)
      by false t later =
          ap (λ b. cond b (Some f.1) (found (es ++ more) var block)) t
          ∙ later (sym (ap (λ b. cond b (Some f.1) (found es var block)) t) ∙ e)

  -- at the end of a table, where there was none
  pub found_pushed : (es : List (Place × V)) (var block : ℕ) (v : V) (x b : ℕ)
      → found es x b ≡ None → found (es ++ (place var block, v) ∷ []) x b ≡ cond (is_place x b (place var block)) (Some v) None
  unfolding found
  found_pushed [] var block v x b none = refl
  found_pushed (f ∷ es) var block v x b none = by (is_place x b f.0) refl (λ h. found_pushed es var block v x b h)
    where
      by : (t : Bool) → is_place x b f.0 ≡ t
          → (found es x b ≡ None → found (es ++ (place var block, v) ∷ []) x b ≡ cond (is_place x b (place var block)) (Some v) None)
          → cond (is_place x b f.0) (Some f.1) (found (es ++ (place var block, v) ∷ []) x b) ≡ cond (is_place x b (place var block)) (Some v) None
      by true t later = absurd (none_is_not_some f.1 (sym none ∙ ap (λ c. cond c (Some f.1) (found es x b)) t))
      by false t later =
          ap (λ c. cond c (Some f.1) (found (es ++ (place var block, v) ∷ []) x b)) t
          ∙ later (sym (ap (λ c. cond c (Some f.1) (found es x b)) t) ∙ none)

  pub found_new : (es : List (Place × V)) (var block : ℕ) (v : V) → found es var block ≡ None → found (es ++ (place var block, v) ∷ []) var block ≡ Some v
  found_new es var block v none =
      found_pushed es var block v var block none ∙ ap (λ c. cond c (Some v) None) (same_place var block)

  -- what is found afterwards was found before, or is new
  pub found_before : (es : List (Place × V)) (var block : ℕ) (v : V) (x b : ℕ) (u : V) → found (es ++ (place var block, v) ∷ []) x b ≡ Some u
      → (found es x b ≡ Some u) ⊎ ((x ≡ var) × (b ≡ block))
  found_before es var block v x b u e = by (found es x b) refl
    where
      new : (t : Bool) → is_place x b (place var block) ≡ t → cond t (Some v) None ≡ Some u → (x ≡ var) × (b ≡ block)
      new true t h =
          let same = place_is x b (place var block) t in
          (sym (ap (λ p. p.var) same), sym (ap (λ p. p.block) same))
      new false t h = absurd (none_is_not_some u h)

      by : (o : Option V) → found es x b ≡ o → (found es x b ≡ Some u) ⊎ ((x ≡ var) × (b ≡ block))
      by (Some w) h = inl (h ∙ sym (found_kept es ((place var block, v) ∷ []) x b w h) ∙ e)
      by None h = inr (new (is_place x b (place var block)) refl (sym (found_pushed es var block v x b h) ∙ e))

-- ---- writes

pub record WrittenAt {V : Type 0} (ws : List (Write V)) (var block : ℕ) (u : V) : Type 0 where
  pub index : ℕ
  pub write : Write V
  pub is : slice_get ws index ≡ Some write
  pub of_var : write.var ≡ var
  pub of_block : write.block ≡ block
  pub value : write.value ≡ u

module _ {V : Type 0} where
  pub written_at : (ws : List (Write V)) (var block : ℕ) (u : V) → last_write ws var block ≡ Some u → WrittenAt ws var block u
  unfolding last_write
  written_at [] var block u e = absurd (none_is_not_some u e)
  written_at (w ∷ ws) var block u e = by (last_write ws var block) refl (λ h. written_at ws var block u h)
    where
      here : (t : Bool) → (var == w.var) ≡ t → (b : Bool) → (block == w.block) ≡ b → cond ((var == w.var) && (block == w.block)) (Some w.value) None ≡ Some u → WrittenAt (w ∷ ws) var block u
      here false t b f h = absurd (none_is_not_some u (sym (ap (λ c. cond (c && (block == w.block)) (Some w.value) None) t) ∙ h))
      here true t false f h =
          absurd (none_is_not_some u (sym (ap (λ c. cond (c && (block == w.block)) (Some w.value) None) t ∙ ap (λ c. cond c (Some w.value) None) f) ∙ h))
      here true t true f h = record {
        index = 0;
        write = w;
        is = refl;
        of_var = grind (arith, nat_tests, t);
        of_block = grind (arith, nat_tests, f);
        value = some_same w.value u (sym (ap (λ c. cond (c && (block == w.block)) (Some w.value) None) t ∙ ap (λ c. cond c (Some w.value) None) f) ∙ h);
      }

      by : (o : Option V) → last_write ws var block ≡ o → (last_write ws var block ≡ Some u → WrittenAt ws var block u) → WrittenAt (w ∷ ws) var block u
      by (Some x) h more =
          let later = more (h ∙ sym (ap (λ o. later_of (cond ((var == w.var) && (block == w.block)) (Some w.value) None) o) h) ∙ e) in
          record { index = suc later.index; write = later.write; is = later.is; of_var = later.of_var; of_block = later.of_block; value = later.value }
      by None h more =
          here (var == w.var) refl (block == w.block) refl
          (sym (ap (λ o. later_of (cond ((var == w.var) && (block == w.block)) (Some w.value) None) o) h) ∙ e)

-- ---- lists that grow at their end

module _ {X : Type 0} where
  pub get_front : (xs ys : List X) (i : ℕ) (x : X) → slice_get xs i ≡ Some x → slice_get (xs ++ ys) i ≡ Some x
  get_front [] ys i x e = absurd (none_is_not_some x e)
  get_front (z ∷ xs) ys zero x e = e
  get_front (z ∷ xs) ys (suc i) x e = get_front xs ys i x e

  pub get_front_back : (xs ys : List X) (i : ℕ) (x : X) → i < length xs → slice_get (xs ++ ys) i ≡ Some x → slice_get xs i ≡ Some x
  get_front_back [] ys i x less e = absurd (omega (arith, less))
  get_front_back (z ∷ xs) ys zero x less e = e
  get_front_back (z ∷ xs) ys (suc i) x less e = get_front_back xs ys i x (omega (arith, less)) e

  -- the item stands in the first list, or in the second
  pub record InSecond (xs ys : List X) (i : ℕ) (x : X) : Type 0 where
    pub past : length xs ≤ i
    pub index : ℕ
    pub is : slice_get ys index ≡ Some x

  pub get_either : (xs ys : List X) (i : ℕ) (x : X) → slice_get (xs ++ ys) i ≡ Some x → (slice_get xs i ≡ Some x) ⊎ InSecond xs ys i x
  get_either [] ys i x e = inr (record { past = omega arith; index = i; is = e })
  get_either (z ∷ xs) ys zero x e = inl e
  get_either (z ∷ xs) ys (suc i) x e = by (get_either xs ys i x e)
    where
      by : (slice_get xs i ≡ Some x) ⊎ InSecond xs ys i x → (slice_get xs i ≡ Some x) ⊎ InSecond (z ∷ xs) ys (suc i) x
      by (inl h) = inl h
      by (inr h) = inr (record { past = omega (arith, h.past); index = h.index; is = h.is })

  pub one_item : (y x : X) (i : ℕ) → slice_get (y ∷ []) i ≡ Some x → (x ≡ y) × (i ≡ 0)
  one_item y x zero e = (sym (some_same y x e), refl)
  one_item y x (suc i) e = absurd (none_is_not_some x e)

  -- at the end is the item that was pushed
  pub get_pushed : (xs : List X) (y x : X) (i : ℕ) → slice_get (xs ++ y ∷ []) i ≡ Some x → (slice_get xs i ≡ Some x) ⊎ ((x ≡ y) × (i ≡ length xs))
  get_pushed [] y x zero e = inr (sym (some_same y x e), refl)
  get_pushed [] y x (suc i) e = absurd (none_is_not_some x e)
  get_pushed (z ∷ xs) y x zero e = inl e
  get_pushed (z ∷ xs) y x (suc i) e = by (get_pushed xs y x i e)
    where
      by : (slice_get xs i ≡ Some x) ⊎ ((x ≡ y) × (i ≡ length xs)) → (slice_get xs i ≡ Some x) ⊎ ((x ≡ y) × (suc i ≡ length (z ∷ xs)))
      by (inl h) = inl h
      by (inr h) = inr (h.0, ap suc h.1)

  pub get_last : (xs : List X) (y : X) → slice_get (xs ++ y ∷ []) (length xs) ≡ Some y
  get_last [] y = refl
  get_last (z ∷ xs) y = get_last xs y

  pub append_all_assoc : (xs ys zs : List X) → (xs ++ ys) ++ zs ≡ xs ++ (ys ++ zs)
  append_all_assoc [] ys zs = refl
  append_all_assoc (x ∷ xs) ys zs = ap (λ us. x ∷ us) (append_all_assoc xs ys zs)

  pub append_none : (xs : List X) → xs ++ [] ≡ xs
  append_none [] = refl
  append_none (x ∷ xs) = ap (λ us. x ∷ us) (append_none xs)
