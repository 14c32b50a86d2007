-- What a call makes, as its parts make it one after the other.
use Rattle.std.proofs.Common.{◌≡◌, ℕ, zero, suc, ◌+◌, ◌<◌, ◌≤◌, ◌⊎◌, inl, inr, true, false, cond, List, [], ◌∷◌, ◌++◌, Option, Some, None, refl, sym, ap, ◌∙◌, subst, arith}
use Rattle.std.proofs.lemmas.Bool.{cases_eq}
use Rattle.std.proofs.lemmas.Bool.Decides.{nat_tests}
use Rattle.std.specs.List.{slice_get}
use Rattle.ssa_core.specs.declared.places.Place.{Place}
use Rattle.ssa_core.specs.Places.{place, found, is_place}
use Rattle.ssa_core.specs.Shapes.{Shape, Mode, ValueKind, absent, gone, unknown, phi, other, SameBlocks, SamePlace, Stands}
use Rattle.ssa_core.specs.Known.{Known, sealed_in, view}
use Rattle.ssa_core.specs.Back.{ComesToOne}
use Rattle.ssa_core.specs.Building.{IsKept, IsAmong, IsNoted, Gains, same_kind, gets, Grows, IsNewPhi, IsNeeded, unsealed, joins, starts, IsNew, IsFresh, not_there, is_unknown, is_made, Makes, SameCalls}
use Rattle.ssa_core.specs.Steps.{Adds, free_places, is_free}
use Rattle.ssa_core.proofs.Among.{found_kept, found_new, found_pushed, get_front, get_either, InSecond, append_all_assoc, append_none, none_is_not_some}
use Rattle.ssa_core.proofs.Moves.{Moves, moves_from, grows_by, comes_one_moves, phi_is_not_absent}

pub same_blocks_refl : {V : Type 0} (s : Shape V) → SameBlocks s s
same_blocks_refl s = record { first = refl; blocks = refl; preds = λ b. refl }

pub same_blocks_trans : {V : Type 0} (s t u : Shape V) → SameBlocks s t → SameBlocks t u → SameBlocks s u
same_blocks_trans s t u a b = record {
  first = b.first ∙ a.first;
  blocks = b.blocks ∙ a.blocks;
  preds = λ x. b.preds x ∙ a.preds x;
}

same_place_trans : {V : Type 0} (s t u : Shape V) (v : V) → SamePlace s t v → SamePlace t u v → SamePlace s u v
same_place_trans s t u v a b = record {
  block = b.block ∙ a.block;
  mode = b.mode ∙ a.mode;
  current = b.current ∙ a.current;
}

module _ {V : Type 0} where
  pub adds_refl : (s : Shape V) → Adds s s
  adds_refl s = record {
    same_blocks = same_blocks_refl s;
    keeps = λ v some. record { kind = refl; place = record { block = refl; mode = refl; current = refl } };
  }

  pub adds_trans : (s t u : Shape V) → Adds s t → Adds t u → Adds s u
  adds_trans s t u a b = record {
    same_blocks = same_blocks_trans s t u a.same_blocks b.same_blocks;
    keeps = λ v some.
        let x = a.keeps v some in
        let y = b.keeps v (λ e. some (sym x.kind ∙ e)) in
        record { kind = y.kind ∙ x.kind; place = same_place_trans s t u v x.place y.place };
  }

  pub adds_by : (s t : Shape V) (v : V) (b : ℕ) (kind : ValueKind V) (mode : Mode) → Stands s t v b kind mode → Adds s t
  adds_by s t v b kind mode h = record { same_blocks = h.same_blocks; keeps = h.keeps }

  still_there : (made : List (Place × V)) (s t : Shape V) (v : V) → (s.kind v ≡ absent → ⊥) → Gains made s t v → t.kind v ≡ absent → ⊥
  still_there made s t v some (same_kind e) h = some (sym e ∙ h)
  still_there made s t v some (gets operands e more f among) h = phi_is_not_absent (t.kind v) operands f h

  pub grows_trans : (made all : List (Place × V)) (s t u : Shape V) → ((v : V) → IsAmong made v → IsAmong all v) → Grows made s t → Grows all t u → Grows all s u
  grows_trans made all s t u wider a b = record {
    same_blocks = same_blocks_trans s t u a.same_blocks b.same_blocks;
    places = λ v some. same_place_trans s t u v (a.places v some) (b.places v (still_there made s t v some (a.kinds v some)));
    kinds = λ v some. by v some (a.kinds v some) (b.kinds v (still_there made s t v some (a.kinds v some)));
  }
    where
      by : (v : V) → (s.kind v ≡ absent → ⊥) → Gains made s t v → Gains all t u v → Gains all s u v
      by v some (same_kind e) (same_kind f) = same_kind (f ∙ e)
      by v some (same_kind e) (gets operands empty more f among) =
          gets operands (sym e ∙ empty) (λ none. more (ap t.preds (a.places v some).block ∙ a.same_blocks.preds (s.block v) ∙ none)) f among
      by v some (gets operands empty more f among) (same_kind e) = gets operands empty more (e ∙ f) (wider v among)
      by v some (gets operands empty more f among) (gets others e m g in_all) = gets others empty more g in_all

  pub absent_before : (made : List (Place × V)) (s t : Shape V) → Grows made s t → (v : V) → t.kind v ≡ absent → s.kind v ≡ absent
  absent_before made s t grows v gone_after = by (s.kind v) refl
    where
      not : (s.kind v ≡ absent → ⊥) → s.kind v ≡ absent
      not some = absurd (still_there made s t v some (grows.kinds v some) gone_after)

      by : (kind : ValueKind V) → s.kind v ≡ kind → s.kind v ≡ absent
      by absent e = e
      by gone e = not (λ f. absurd (grind (arith, e, f)))
      by unknown e = not (λ f. absurd (grind (arith, e, f)))
      by (phi operands) e = not (λ f. absurd (grind (arith, e, f)))
      by other e = not (λ f. absurd (grind (arith, e, f)))

  pub calls_refl : (k : Known V) → SameCalls k k
  calls_refl k = record { writes = refl; reads = refl; sealed = λ b. refl }

  pub calls_trans : (k l m : Known V) → SameCalls k l → SameCalls l m → SameCalls k m
  calls_trans k l m a b = record {
    writes = b.writes ∙ a.writes;
    reads = b.reads ∙ a.reads;
    sealed = λ x. b.sealed x ∙ a.sealed x;
  }

  among_front : (es more : List (Place × V)) (v : V) → IsAmong es v → IsAmong (es ++ more) v
  among_front es more v h = record { index = h.index; place = h.place; is = get_front es more h.index (h.place, v) h.is }

module _ {V : Type 0} (asked : ℕ → Type 0) (ends : List ℕ) where
  pub makes_moves : (k l : Known V) (s t : Shape V) → l.writes ≡ k.writes → ((b : ℕ) → sealed_in k.sealed b ≡ true → sealed_in l.sealed b ≡ true)
      → Makes asked ends k l s t → Moves k l s t
  makes_moves k l s t writes sealed h =
      moves_from k l s t (λ x b p is. ap (λ es. found es x b) h.made ∙ found_kept k.made h.more x b p is) h.lost writes sealed l.made h.grows

  -- no value is made at the start of a block
  pub makes_none : (k l : Known V) (s t : Shape V) → l.made ≡ k.made → Adds s t
      → ((v : V) → s.kind v ≡ absent → IsFresh l t v)
      → ((x b : ℕ) (v : V) → found k.lost x b ≡ Some v → found l.lost x b ≡ Some v)
      → ((x : ℕ) → IsNoted l x → IsNoted k x ⊎ asked x)
      → Makes asked ends k l s t
  makes_none k l s t same adds fresh lost notes = record {
    more = [];
    made = same ∙ sym (append_none k.made);
    new = λ i home p is. absurd (none_is_not_some (home, p) is);
    grows = grows_by l.made s t adds;
    fresh = fresh;
    lost = lost;
    notes = notes;
  }

  pub makes_refl : (k : Known V) (s : Shape V) → Makes asked ends k k s s
  makes_refl k s = makes_none k k s s refl (adds_refl s) (λ v e. not_there e) (λ x b v is. is) (λ x h. inl h)

  pub makes_same : (k l : Known V) (s : Shape V) → l ≡ k → Makes asked ends k l s s
  makes_same k l s same = subst (λ x. Makes asked ends k x s s) (sym same) (makes_refl k s)

  pub makes_trans : (modes : ℕ → Mode) (k l m : Known V) (s t u : Shape V) → IsKept modes l t → SameCalls l m
      → Makes asked ends k l s t → Makes asked ends l m t u → Makes asked ends k m s u
  makes_trans modes k l m s t u kept calls a b = record {
    more = a.more ++ b.more;
    made = b.made ∙ ap (λ es. es ++ b.more) a.made ∙ append_all_assoc k.made a.more b.more;
    new = λ i home p is. new i home p (get_either a.more b.more i (home, p) is);
    grows = grows_trans l.made m.made s t u (λ v h. subst (λ es. IsAmong es v) (sym b.made) (among_front l.made b.more v h)) a.grows b.grows;
    fresh = λ v e. fresh v (a.fresh v e);
    lost = λ x c v is. b.lost x c v (a.lost x c v is);
    notes = λ x h. noted x (b.notes x h);
  }
    where
      moves : Moves l m t u
      moves = makes_moves l m t u calls.writes (λ c is. calls.sealed c ∙ is) b

      noted : (x : ℕ) → IsNoted l x ⊎ asked x → IsNoted k x ⊎ asked x
      noted x (inl h) = a.notes x h
      noted x (inr h) = inr h

      fresh : (v : V) → IsFresh l t v → IsFresh m u v
      fresh v (not_there e) = b.fresh v e
      fresh v (is_unknown e) = is_unknown (moves.unknowns v e)
      fresh v (is_made h) = is_made (subst (λ es. IsAmong es v) (sym b.made) (among_front l.made b.more v h))

      phi_first : (p : V) → IsNewPhi s t p → IsNewPhi s u p
      phi_first p h = by (b.grows.kinds p (phi_is_not_absent (t.kind p) h.operands h.is))
        where
          by : Gains m.made t u p → IsNewPhi s u p
          by (same_kind e) = record { was = h.was; operands = h.operands; is = e ∙ h.is }
          by (gets operands e some f among) = record { was = h.was; operands = operands; is = f }

      first : (home : Place) (p : V) → IsNew asked ends l s t home p → IsNew asked ends m s u home p
      first home p h = record {
        for_var = h.for_var;
        path = comes_one_moves modes l m t u kept moves home.var home.block ends h.path;
        needed = by h.needed;
      }
        where
          by : IsNeeded l s t home.block p → IsNeeded m s u home.block p
          by (unsealed is new) = unsealed (calls.sealed home.block ∙ is) (phi_first p new)
          by (joins one two rest is new) = joins one two rest (b.grows.same_blocks.preds home.block ∙ is) (phi_first p new)
          by (starts is none kind) = starts (calls.sealed home.block ∙ is) (b.grows.same_blocks.preds home.block ∙ none) (moves.unknowns p kind)

      phi_second : (p : V) → IsNewPhi t u p → IsNewPhi s u p
      phi_second p h = record { was = absent_before l.made s t a.grows p h.was; operands = h.operands; is = h.is }

      second : (home : Place) (p : V) → IsNew asked ends m t u home p → IsNew asked ends m s u home p
      second home p h = record { for_var = h.for_var; path = h.path; needed = by h.needed }
        where
          by : IsNeeded m t u home.block p → IsNeeded m s u home.block p
          by (unsealed is new) = unsealed is (phi_second p new)
          by (joins one two rest is new) = joins one two rest is (phi_second p new)
          by (starts is none kind) = starts is none kind

      new : (i : ℕ) (home : Place) (p : V) → (slice_get a.more i ≡ Some (home, p)) ⊎ InSecond a.more b.more i (home, p) → IsNew asked ends m s u home p
      new i home p (inl is) = first home p (a.new i home p is)
      new i home p (inr h) = second home p (b.new h.index home p h.is)

-- for other blocks, or for more variables
pub makes_through : {V : Type 0} (asked wider : ℕ → Type 0) (ends others : List ℕ) (k l : Known V) (s t : Shape V)
    → ((x : ℕ) → asked x → wider x)
    → ((x start : ℕ) → asked x → ComesToOne (view l t x) start ends → ComesToOne (view l t x) start others)
    → Makes asked ends k l s t → Makes wider others k l s t
makes_through asked wider ends others k l s t more through h = record {
  more = h.more;
  made = h.made;
  new = λ i home p is.
      let n = h.new i home p is in
      record { for_var = more home.var n.for_var; path = through home.var home.block n.for_var n.path; needed = n.needed };
  grows = h.grows;
  fresh = h.fresh;
  lost = h.lost;
  notes = λ x n. by x (h.notes x n);
}
  where
    by : (x : ℕ) → IsNoted k x ⊎ asked x → IsNoted k x ⊎ wider x
    by x (inl n) = inl n
    by x (inr a) = inr (more x a)

-- ---- a value of its own at the start of a block

not_here : (var block n : ℕ) → (n ≡ block → ⊥) → is_place var n (place var block) ≡ false
not_here var block n d = grind (arith, nat_tests, d)

module _ {V : Type 0} where
  free_before : (made : List (Place × V)) (var block : ℕ) (v : V) (n : ℕ) → found made var block ≡ None → n ≤ block
      → free_places (made ++ (place var block, v) ∷ []) var n ≡ free_places made var n
  unfolding free_places
  free_before made var block v zero none le = refl
  free_before made var block v (suc n) none le = by (found made var n) refl (free_before made var block v n none (omega (arith, le)))
    where
      by : (o : Option V) → found made var n ≡ o → free_places (made ++ (place var block, v) ∷ []) var n ≡ free_places made var n
          → is_free (found (made ++ (place var block, v) ∷ []) var n) + free_places (made ++ (place var block, v) ∷ []) var n ≡ is_free (found made var n) + free_places made var n
      by (Some u) e before =
          let a : is_free (found (made ++ (place var block, v) ∷ []) var n) ≡ 0 = ap (λ o. is_free o) (found_kept made ((place var block, v) ∷ []) var n u e) in
          let b : is_free (found made var n) ≡ 0 = ap (λ o. is_free o) e in
          omega (arith, a, b, before)
      by None e before =
          let f : is_place var n (place var block) ≡ false = not_here var block n (λ e. omega (arith, le, e)) in
          let a : is_free (found (made ++ (place var block, v) ∷ []) var n) ≡ 1 = ap (λ o. is_free o) (found_pushed made var block v var n e ∙ ap (λ c. cond c (Some v) None) f) in
          let b : is_free (found made var n) ≡ 1 = ap (λ o. is_free o) e in
          omega (arith, a, b, before)

  pub free_made : (made : List (Place × V)) (var block : ℕ) (v : V) (n : ℕ) → found made var block ≡ None → block < n
      → suc (free_places (made ++ (place var block, v) ∷ []) var n) ≡ free_places made var n
  unfolding free_places
  free_made made var block v zero none less = absurd (omega (arith, less))
  free_made made var block v (suc n) none less = by (cases_eq n block) (λ h. free_made made var block v n none h)
    where
      by : (n ≡ block) ⊎ (n ≡ block → ⊥) → (block < n → suc (free_places (made ++ (place var block, v) ∷ []) var n) ≡ free_places made var n)
          → suc (is_free (found (made ++ (place var block, v) ∷ []) var n) + free_places (made ++ (place var block, v) ∷ []) var n) ≡ is_free (found made var n) + free_places made var n
      by (inl e) more =
          let a : is_free (found (made ++ (place var block, v) ∷ []) var n) ≡ 0 =
          ap (λ b. is_free (found (made ++ (place var block, v) ∷ []) var b)) e ∙ ap (λ o. is_free o) (found_new made var block v none) in
          let b : is_free (found made var n) ≡ 1 = ap (λ x. is_free (found made var x)) e ∙ ap (λ o. is_free o) none in
          let c = free_before made var block v n none (omega (arith, e)) in
          omega (arith, a, b, c)
      by (inr d) more = apart (found made var n) refl (more (omega (arith, less, d)))
        where
          apart : (o : Option V) → found made var n ≡ o → suc (free_places (made ++ (place var block, v) ∷ []) var n) ≡ free_places made var n
              → suc (is_free (found (made ++ (place var block, v) ∷ []) var n) + free_places (made ++ (place var block, v) ∷ []) var n) ≡ is_free (found made var n) + free_places made var n
          apart (Some u) e before =
              let a : is_free (found (made ++ (place var block, v) ∷ []) var n) ≡ 0 = ap (λ o. is_free o) (found_kept made ((place var block, v) ∷ []) var n u e) in
              let b : is_free (found made var n) ≡ 0 = ap (λ o. is_free o) e in
              omega (arith, a, b, before)
          apart None e before =
              let f : is_place var n (place var block) ≡ false = not_here var block n d in
              let a : is_free (found (made ++ (place var block, v) ∷ []) var n) ≡ 1 = ap (λ o. is_free o) (found_pushed made var block v var n e ∙ ap (λ c. cond c (Some v) None) f) in
              let b : is_free (found made var n) ≡ 1 = ap (λ o. is_free o) e in
              omega (arith, a, b, before)
