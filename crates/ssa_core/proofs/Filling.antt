-- A Phi gets its operands.
use Rattle.std.proofs.Common.{◌≡◌, ℕ, zero, suc, ◌+◌, ◌<◌, ◌≤◌, ◌⊎◌, inl, inr, Bool, true, false, List, [], ◌∷◌, ◌++◌, length, get_or, take, Some, refl, sym, ap, ◌∙◌, subst, arith}
use Rattle.std.proofs.lemmas.List.{take_more, take_all, length-take-le}
use Rattle.std.specs.List.{slice_get}
use Rattle.ssa_core.specs.declared.places.Place.{Place}
use Rattle.ssa_core.specs.Places.{place}
use Rattle.ssa_core.specs.Shapes.{Shape, Mode, phi, IsThere, IsAppended}
use Rattle.ssa_core.specs.Gives.{Gives, Full, joined, IsGivenAt}
use Rattle.ssa_core.specs.Known.{Known, last_write, sealed_in, view}
use Rattle.ssa_core.specs.Building.{Stage, filled, waits, MadeWell, IsKept, IsAmong, Gains, same_kind, gets, Grows}
use Rattle.ssa_core.specs.Steps.{IsFilled, AreGiven}
use Rattle.ssa_core.proofs.Among.{none_is_not_some, some_same}
use Rattle.ssa_core.proofs.Keeps.{gives_at_end}
use Rattle.ssa_core.proofs.Moves.{Moves, moves_from, moves_extends, made_moves, stage_moves, full_moves, kept_from, phi_is_not_absent, phi_is_not_gone, same_lists}

pub decide_by : {V : Type 0} (same : V → V → Bool) → ((a b : V) → same a b ≡ true → a ≡ b) → ((a : V) → same a a ≡ true) → (x y : V) → (x ≡ y) ⊎ (x ≡ y → ⊥)
decide_by {V} same sound complete x y = by (same x y) refl
  where
    by : (t : Bool) → same x y ≡ t → (x ≡ y) ⊎ (x ≡ y → ⊥)
    by true e = inl (sound x y e)
    by false e = inr (λ h. true_is_not_false (sym (complete x) ∙ ap (λ z. same x z) h ∙ e))
      where
        true_is_not_false : true ≡ false → ⊥
        true_is_not_false f = grind (arith, f)

module _ {V : Type 0} where
  pub filled_by_none : (s : Shape V) (p : V) → s.kind p ≡ phi [] → IsFilled s s p []
  filled_by_none s p is = record {
    kind_is = is;
    kinds = λ x d. refl;
    places = λ x. record { block = refl; mode = refl; current = refl };
    same_blocks = record { first = refl; blocks = refl; preds = λ b. refl };
  }

  pub filled_more : (s t u : Shape V) (p v : V) (operands more : List V) → IsFilled s t p operands → IsAppended t u p v → more ≡ operands ++ v ∷ [] → IsFilled s u p more
  filled_more s t u p v operands more h a is = record {
    kind_is = a.gains operands h.kind_is ∙ ap phi (sym is);
    kinds = λ x d. a.keeps x d ∙ h.kinds x d;
    places = λ x. record {
      block = (a.places x).block ∙ (h.places x).block;
      mode = (a.places x).mode ∙ (h.places x).mode;
      current = (a.places x).current ∙ (h.places x).current;
    };
    same_blocks = record {
      first = a.same_blocks.first ∙ h.same_blocks.first;
      blocks = a.same_blocks.blocks ∙ h.same_blocks.blocks;
      preds = λ b. a.same_blocks.preds b ∙ h.same_blocks.preds b;
    };
  }

  pub there_filled : ((x y : V) → (x ≡ y) ⊎ (x ≡ y → ⊥)) → (s t : Shape V) (p : V) (operands : List V) → IsFilled s t p operands → (v : V) → IsThere s v → IsThere t v
  there_filled decide s t p operands h v old = by (decide v p)
    where
      own : t.current v ≡ v
      own = (h.places v).current ∙ old.own

      by : (v ≡ p) ⊎ (v ≡ p → ⊥) → IsThere t v
      by (inl e) = record {
        once = phi_is_not_absent (t.kind v) operands (ap t.kind e ∙ h.kind_is);
        still = phi_is_not_gone (t.kind v) operands (ap t.kind e ∙ h.kind_is);
        own = own;
      }
      by (inr d) = record {
        once = λ e. old.once (sym (h.kinds v d) ∙ e);
        still = λ e. old.still (sym (h.kinds v d) ∙ e);
        own = own;
      }

  pub filled_grows : ((x y : V) → (x ≡ y) ⊎ (x ≡ y → ⊥)) → (made : List (Place × V)) (s t : Shape V) (p : V) (operands : List V) → s.kind p ≡ phi [] → IsFilled s t p operands
      → (s.preds (s.block p) ≡ [] → ⊥) → IsAmong made p → Grows made s t
  filled_grows decide made s t p operands empty h some among = record {
    same_blocks = h.same_blocks;
    places = λ v some. h.places v;
    kinds = λ v old. by v (decide v p);
  }
    where
      by : (v : V) → (v ≡ p) ⊎ (v ≡ p → ⊥) → Gains made s t v
      by v (inl e) =
          gets operands (ap s.kind e ∙ empty) (λ none. some (ap (λ x. s.preds (s.block x)) (sym e) ∙ none)) (ap t.kind e ∙ h.kind_is)
          (subst (λ x. IsAmong made x) (sym e) among)
      by v (inr d) = same_kind (h.kinds v d)

-- the operand at a place
record AtPlace {X : Type 0} (xs : List X) (i : ℕ) : Type 0 where
  item : X
  is : slice_get xs i ≡ Some item

at_place : {X Y : Type 0} (xs : List X) (ys : List Y) (i : ℕ) (y : Y) → length xs ≡ length ys → slice_get ys i ≡ Some y → AtPlace xs i
at_place [] [] i y size at = absurd (none_is_not_some y at)
at_place [] (z ∷ ys) i y size at = absurd (omega (arith, size))
at_place (x ∷ xs) [] i y size at = absurd (none_is_not_some y at)
at_place (x ∷ xs) (z ∷ ys) zero y size at = record { item = x; is = refl }
at_place (x ∷ xs) (z ∷ ys) (suc i) y size at = let h = at_place xs ys i y (omega (arith, size)) at in record { item = h.item; is = h.is }

module _ {V : Type 0} (modes : ℕ → Mode) (decide : (x y : V) → (x ≡ y) ⊎ (x ≡ y → ⊥)) (k : Known V) (s t : Shape V) (kept : IsKept modes k s)
    (var block index : ℕ) (p : V) (operands : List V) (at : slice_get k.made index ≡ Some (place var block, p)) (empty : s.kind p ≡ phi []) (h : IsFilled s t p operands)
    (some : s.preds block ≡ [] → ⊥) (sealed : sealed_in k.sealed block ≡ true)
    (given : AreGiven (view k s var) (modes var) block operands) (all : length operands ≡ length (s.preds block)) where
  home : s.block p ≡ block
  home = (kept.made index (place var block) p at).home

  pub fill_grows : Grows k.made s t
  unfolding home
  fill_grows =
      filled_grows decide k.made s t p operands empty h (λ none. some (ap s.preds (sym home) ∙ none)) (record { index = index; place = place var block; is = at })

  pub fill_moves : Moves k k s t
  fill_moves = moves_from k k s t (λ x b q is. is) (λ x b v is. is) refl (λ b is. is) k.made fill_grows

  pub fill_full : Full (view k t var) block p
  unfolding home
  fill_full = by (kept.made index (place var block) p at).stage
    where
      each : (i pred : ℕ) → slice_get (t.preds block) i ≡ Some pred → IsGivenAt (view k t var) operands i pred
      each i pred is =
          let before = ap (λ qs. slice_get qs i) (sym (h.same_blocks.preds block)) ∙ is in
          let item = at_place operands (s.preds block) i pred all before in
          let g = given i item.item item.is in
          let same : g.pred ≡ pred = some_same g.pred pred (sym g.at ∙ before) in
          record {
            operand = item.item;
            is = item.is;
            gives = gives_at_end (view k s var) (view k t var) (moves_extends modes k k s t kept fill_moves var) pred item.item
                (subst (λ q. Gives (view k s var) (last_write k.writes var q) q item.item) same g.given.gives);
          }

      by : Stage (view k s var) block p → Full (view k t var) block p
      by (filled is full) =
          full_moves modes k k s t kept fill_moves var block p (kept.once index (place var block) p at) home k.made
          (fill_grows.kinds p (phi_is_not_absent (s.kind p) [] empty)) full
      by (waits is own) =
          joined operands h.kind_is ((h.places p).current ∙ own) (all ∙ ap (λ qs. length qs) (sym (h.same_blocks.preds block))) each

  -- what always holds, after the Phi got its operands
  pub fill_kept : IsKept modes k t
  fill_kept =
      kept_from modes k k s t kept fill_moves
      (λ i x q is. made i x q is (decide q p)) kept.once
      (λ i j x y q qs ati atj is. apart i j x y q qs ati atj is (decide q p))
      (λ x b stop is. inl is) (λ x b v is. inl is)
      (λ b is. subst (λ n. b < n) (sym h.same_blocks.blocks) (kept.sealed b is))
    where
      made : (i : ℕ) (x : Place) (q : V) → slice_get k.made i ≡ Some (x, q) → (q ≡ p) ⊎ (q ≡ p → ⊥) → MadeWell (view k t x.var) (modes x.var) x.block q
      made i x q is (inl e) =
          let same = kept.apart i index x (place var block) p [] (is ∙ ap (λ v. Some (x, v)) e) at empty in
          let here : x ≡ place var block =
          ap (λ f. f.0) (some_same (x, q) (place var block, p) (sym is ∙ ap (λ n. slice_get k.made n) same ∙ at)) in
          made_moves modes k k s t kept fill_moves x.var (modes x.var) x.block q (kept.made i x q is)
          (subst (λ y. Stage (view k t y.var) y.block q) (sym here) (subst (λ v. Stage (view k t var) block v) (sym e) (filled sealed fill_full)))
      made i x q is (inr d) =
          let old = kept.made i x q is in
          made_moves modes k k s t kept fill_moves x.var (modes x.var) x.block q old
          (stage_moves modes k k s t kept fill_moves x.var x.block q (kept.once i x q is) (h.kinds q d) old.stage)

      apart : (i j : ℕ) (x y : Place) (q : V) (qs : List V) → slice_get k.made i ≡ Some (x, q) → slice_get k.made j ≡ Some (y, q) → t.kind q ≡ phi qs
          → (q ≡ p) ⊎ (q ≡ p → ⊥) → i ≡ j
      apart i j x y q qs ati atj is (inl e) = kept.apart i j x y q [] ati atj (ap s.kind e ∙ empty)
      apart i j x y q qs ati atj is (inr d) = kept.apart i j x y q qs ati atj (sym (h.kinds q d) ∙ is)

pub taken_more : {V : Type 0} (xs : List V) (i : ℕ) (x : V) → i < length xs → x ≡ get_or xs i x → take (i + 1) xs ≡ take i xs ++ x ∷ []
taken_more xs i x less is = take_more xs i x less ∙ ap (λ y. take i xs ++ y ∷ []) (sym is)

pub taken_all : {V : Type 0} (xs : List V) (i : ℕ) → length xs ≤ i → take i xs ≡ xs
taken_all xs i le = take_all i xs le

-- a predecessor is left for the next operand
pub room_left : {V : Type 0} (s t : Shape V) (p : V) (all : List V) (i : ℕ) (operands : List V) → IsFilled s t p (take i all) → i < length all
    → length all ≤ length (s.preds (s.block p)) → t.kind p ≡ phi operands → length operands < length (t.preds (t.block p))
room_left s t p all i operands h less room is =
    let same = same_lists (t.kind p) operands (take i all) is h.kind_is in
    let size = length-take-le i all (omega (arith, less)) in
    let there = ap (λ qs. length qs) (ap t.preds (h.places p).block ∙ h.same_blocks.preds (s.block p)) in
    omega (arith, less, room, ap (λ xs. length xs) same, size, there)
