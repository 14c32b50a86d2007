-- A new value at the start of a block, or for a block that no walk comes to.
use Rattle.std.proofs.Common.{◌≡◌, ℕ, ◌+◌, ◌<◌, ◌≤◌, ◌⊎◌, inl, inr, Bool, true, false, List, [], ◌∷◌, ◌++◌, length, Option, Some, None, refl, sym, ap, ◌∙◌, subst, arith}
use Rattle.std.proofs.lemmas.List.{length-append}
use Rattle.std.proofs.lemmas.Bool.{cases_eq}
use Rattle.std.proofs.lemmas.Option.{slice_get_within}
use Rattle.std.specs.List.{slice_get}
use Rattle.ssa_core.specs.declared.places.Place.{Place}
use Rattle.ssa_core.specs.Places.{place, found, Puts}
use Rattle.ssa_core.specs.Shapes.{Shape, Mode, ValueKind, absent, gone, unknown, phi, IsThere, Stands}
use Rattle.ssa_core.specs.Gives.{at_start, Chain}
use Rattle.ssa_core.specs.Known.{Known, last_write, later_of, sealed_in, view}
use Rattle.ssa_core.specs.Back.{CanPass, IsFound, was_written, was_made, there, IsLost}
use Rattle.ssa_core.specs.Building.{CanGive, Stage, filled, waits, MadeWell, IsKept, IsNoted, by_made, by_passed, by_lost, IsNeeded, unsealed, joins, starts, IsNew, IsFresh, not_there, is_unknown, is_made, Makes}
use Rattle.ssa_core.specs.Steps.{Adds, Advances, IsStanding, IsFit, fit_start, fit_phi, IsOpen, AreOpen, known_value, free_places}
use Rattle.ssa_core.proofs.Among.{found_kept, found_new, found_before, found_at_index, written_at, get_last, get_pushed, one_item, none_is_not_some, some_same}
use Rattle.ssa_core.proofs.Keeps.{chain_extends}
use Rattle.ssa_core.proofs.Moves.{Moves, moves_from, moves_extends, grows_by, kept_from, kept_unmade, made_moves, stage_moves, phi_is_not_unknown}
use Rattle.ssa_core.proofs.Making.{adds_by, makes_none, free_made, calls_refl}

later_none : {X : Type 0} (a b : Option X) → later_of a b ≡ None → (a ≡ None) × (b ≡ None)
later_none None None e = (refl, refl)
later_none (Some x) None e = absurd (none_is_not_some x (sym e))
later_none a (Some x) e = absurd (none_is_not_some x (sym e))

module _ {V : Type 0} where
  -- the made value is there
  there_by : (s t : Shape V) (v : V) (b : ℕ) (kind : ValueKind V) (mode : Mode) → (kind ≡ absent → ⊥) → (kind ≡ gone → ⊥) → Stands s t v b kind mode → IsThere t v
  there_by s t v b kind mode some still h = record {
    once = λ e. some (sym h.kind_is ∙ e);
    still = λ e. still (sym h.kind_is ∙ e);
    own = h.own;
  }

  fit_adds : (k : Known V) (s t : Shape V) (mode : Mode) (b : ℕ) (v : V) → IsFit k s t mode b v → Adds s t
  fit_adds k s t mode b v (fit_start sealed none h) = adds_by s t v b unknown mode h
  fit_adds k s t mode b v (fit_phi some was h) = adds_by s t v b (phi []) mode h

  fit_there : (k : Known V) (s t : Shape V) (mode : Mode) (b : ℕ) (v : V) → IsFit k s t mode b v → IsThere t v
  fit_there k s t mode b v (fit_start sealed none h) = there_by s t v b unknown mode (λ e. grind (arith, e)) (λ e. grind (arith, e)) h
  fit_there k s t mode b v (fit_phi some was h) = there_by s t v b (phi []) mode (λ e. grind (arith, e)) (λ e. grind (arith, e)) h

  fit_block : (k : Known V) (s t : Shape V) (mode : Mode) (b : ℕ) (v : V) → IsFit k s t mode b v → t.block v ≡ b
  fit_block k s t mode b v (fit_start sealed none h) = h.block_is
  fit_block k s t mode b v (fit_phi some was h) = h.block_is

  fit_mode : (k : Known V) (s t : Shape V) (mode : Mode) (b : ℕ) (v : V) → IsFit k s t mode b v → t.mode v ≡ mode
  fit_mode k s t mode b v (fit_start sealed none h) = h.mode_is
  fit_mode k s t mode b v (fit_phi some was h) = h.mode_is

module _ {V : Type 0} (modes : ℕ → Mode) (k l : Known V) (s t : Shape V) (kept : IsKept modes k s) (var block : ℕ) (v : V)
    (nothing : known_value k var block ≡ None) (within : block < s.blocks) (ends : CanPass (view k s var) block → ⊥)
    (fit : IsFit k s t (modes var) block v)
    (made : l.made ≡ k.made ++ (place var block, v) ∷ []) (sealed : (b : ℕ) → sealed_in l.sealed b ≡ sealed_in k.sealed b)
    (writes : l.writes ≡ k.writes) (reads : l.reads ≡ k.reads) (same_passed : l.passed ≡ k.passed) (same_lost : l.lost ≡ k.lost) where
  unmade : found k.made var block ≡ None
  unmade = (later_none (found k.made var block) (last_write k.writes var block) nothing).0

  unwritten : last_write k.writes var block ≡ None
  unwritten = (later_none (found k.made var block) (last_write k.writes var block) nothing).1

  adds : Adds s t
  adds = fit_adds k s t (modes var) block v fit

  moves : Moves k l s t
  moves =
      moves_from k l s t (λ x b p is. ap (λ es. found es x b) made ∙ found_kept k.made ((place var block, v) ∷ []) x b p is)
      (λ x b u is. ap (λ es. found es x b) same_lost ∙ is) writes (λ b is. sealed b ∙ is) [] (grows_by [] s t adds)

  found_there : found l.made var block ≡ Some v
  found_there = ap (λ es. found es var block) made ∙ found_new k.made var block v unmade

  stands_there : IsThere t v
  stands_there = fit_there k s t (modes var) block v fit

  well : MadeWell (view l t var) (modes var) block v
  unfolding adds stands_there
  well = record {
    home = fit_block k s t (modes var) block v fit;
    within = subst (λ n. block < n) (sym adds.same_blocks.blocks) within;
    alike = fit_mode k s t (modes var) block v fit;
    can_give = record {
      once = stands_there.once;
      there = subst (λ x. IsThere t x) (sym stands_there.own) stands_there;
      alike = ap t.mode stands_there.own ∙ fit_mode k s t (modes var) block v fit;
    };
    stage = by fit;
  }
    where
      by : IsFit k s t (modes var) block v → Stage (view l t var) block v
      by (fit_start is none h) = filled (sealed block ∙ is) (at_start h.kind_is h.own (sealed block ∙ is) (h.same_blocks.preds block ∙ none))
      by (fit_phi some was h) = waits h.kind_is h.own

  -- the entry is the one that is made
  record IsLast (index : ℕ) (home : Place) (p : V) : Type 0 where
    at : home ≡ place var block
    is : p ≡ v
    last : index ≡ length k.made

  at_last : (index : ℕ) (home : Place) (p : V) → slice_get l.made index ≡ Some (home, p)
      → (slice_get k.made index ≡ Some (home, p)) ⊎ IsLast index home p
  at_last index home p at = by (get_pushed k.made (place var block, v) (home, p) index (ap (λ es. slice_get es index) (sym made) ∙ at))
    where
      by : (slice_get k.made index ≡ Some (home, p)) ⊎ ((◌≡◌ {A = Place × V} (home, p) (place var block, v)) × (index ≡ length k.made))
          → (slice_get k.made index ≡ Some (home, p)) ⊎ IsLast index home p
      by (inl h) = inl h
      by (inr h) = inr (record { at = ap (λ (y : Place × V). y.0) h.0; is = ap (λ (y : Place × V). y.1) h.0; last = h.1 })

  pub make_kept : IsKept modes l t
  unfolding adds moves
  make_kept =
      kept_from modes k l s t kept moves
      (λ i home p at. make_well i home p (at_last i home p at))
      (λ i home p at. once i home p (at_last i home p at))
      (λ i j x y p operands ati atj is. apart i j x y p operands is (at_last i x p ati) (at_last j y p atj))
      (λ x b stop is. inl (ap (λ es. found es x b) (sym same_passed) ∙ is))
      (λ x b u is. inl (ap (λ es. found es x b) (sym same_lost) ∙ is))
      (λ b is. subst (λ n. b < n) (sym adds.same_blocks.blocks) (kept.sealed b (sym (sealed b) ∙ is)))
    where
      make_well : (i : ℕ) (home : Place) (p : V) → (slice_get k.made i ≡ Some (home, p)) ⊎ IsLast i home p
          → MadeWell (view l t home.var) (modes home.var) home.block p
      make_well i home p (inl at) =
          let h = kept.made i home p at in
          made_moves modes k l s t kept moves home.var (modes home.var) home.block p h
          (stage_moves modes k l s t kept moves home.var home.block p (kept.once i home p at) (adds.keeps p h.can_give.once).kind h.stage)
      make_well i home p (inr e) =
          subst (λ y. MadeWell (view l t y.var) (modes y.var) y.block p) (sym e.at) (subst (λ u. MadeWell (view l t var) (modes var) block u) (sym e.is) well)

      once : (i : ℕ) (home : Place) (p : V) → (slice_get k.made i ≡ Some (home, p)) ⊎ IsLast i home p
          → found l.made home.var home.block ≡ Some p
      once i home p (inl at) = moves.made home.var home.block p (kept.once i home p at)
      once i home p (inr e) = subst (λ y. found l.made y.var y.block ≡ Some p) (sym e.at) (found_there ∙ ap Some (sym e.is))

      fresh : (i : ℕ) (x : Place) (p : V) (operands : List V) → slice_get k.made i ≡ Some (x, p) → p ≡ v → t.kind p ≡ phi operands → IsFit k s t (modes var) block v → ⊥
      fresh i x p operands at e is (fit_start f none h) = phi_is_not_unknown (t.kind p) operands is (ap t.kind e ∙ h.kind_is)
      fresh i x p operands at e is (fit_phi some was h) = (kept.made i x p at).can_give.once (ap s.kind e ∙ was)

      apart : (i j : ℕ) (x y : Place) (p : V) (operands : List V) → t.kind p ≡ phi operands
          → (slice_get k.made i ≡ Some (x, p)) ⊎ IsLast i x p
          → (slice_get k.made j ≡ Some (y, p)) ⊎ IsLast j y p
          → i ≡ j
      apart i j x y p operands is (inl a) (inl b) =
          kept.apart i j x y p operands a b (sym (adds.keeps p (kept.made i x p a).can_give.once).kind ∙ is)
      apart i j x y p operands is (inl a) (inr b) = absurd (fresh i x p operands a b.is is fit)
      apart i j x y p operands is (inr a) (inl b) = absurd (fresh j y p operands b a.is is fit)
      apart i j x y p operands is (inr a) (inr b) = a.last ∙ sym b.last

  pub make_advances : Advances modes var k l s t
  unfolding unmade
  make_advances = record {
    kept = make_kept;
    calls = record { writes = writes; reads = reads; sealed = sealed };
    room =
        let a = free_made k.made var block v s.blocks unmade within in
        let b = ap (λ es. length es) made in
        let c = length-append k.made ((place var block, v) ∷ []) in
        let d = ap (λ es. free_places es var s.blocks) made in
        omega (arith, a, b, c, d);
  }

  pub make_makes : ((x y : V) → (x ≡ y) ⊎ (x ≡ y → ⊥)) → Makes (λ x. x ≡ var) (block ∷ []) k l s t
  unfolding adds
  make_makes decide = record {
    more = (place var block, v) ∷ [];
    made = made;
    new = λ i home p is. new home p (at_last_one i home p is);
    grows = grows_by l.made s t adds;
    fresh = λ u e. fresh u e fit (decide u v);
    lost = λ x b u is. ap (λ es. found es x b) same_lost ∙ is;
    notes = λ x n. notes x n;
  }
    where
      fresh : (u : V) → s.kind u ≡ absent → IsFit k s t (modes var) block v → (u ≡ v) ⊎ (u ≡ v → ⊥) → IsFresh l t u
      fresh u e f (inl same) = is_made (record { index = length k.made; place = place var block; is = ap (λ es. slice_get es (length k.made)) made ∙ get_last k.made (place var block, v) ∙ ap (λ w. Some (place var block, w)) (sym same) })
      fresh u e (fit_start is none h) (inr d) = not_there ((h.alone u d).kind ∙ e)
      fresh u e (fit_phi some was h) (inr d) = not_there ((h.alone u d).kind ∙ e)

      needed : IsFit k s t (modes var) block v → (flag : Bool) → sealed_in k.sealed block ≡ flag → (qs : List ℕ) → s.preds block ≡ qs → IsNeeded l s t block v
      needed (fit_start is none h) flag f qs e = starts (sealed block ∙ is) (h.same_blocks.preds block ∙ none) h.kind_is
      needed (fit_phi some was h) false f qs e = unsealed (sealed block ∙ f) (record { was = was; operands = []; is = h.kind_is })
      needed (fit_phi some was h) true f [] e = absurd (some f e)
      needed (fit_phi some was h) true f (q ∷ []) e = absurd (ends (record { sealed = f; unwritten = unwritten; before = q; preds = e }))
      needed (fit_phi some was h) true f (q ∷ r ∷ qs) e =
          joins q r qs (h.same_blocks.preds block ∙ e) (record { was = was; operands = []; is = h.kind_is })

      here : IsNew (λ x. x ≡ var) (block ∷ []) l s t (place var block) v
      here = record {
        for_var = refl;
        path = record { place = 0; chosen = block; is = refl; path = there (ap (λ ws. last_write ws var block) writes ∙ unwritten) };
        needed = needed fit (sealed_in k.sealed block) refl (s.preds block) refl;
      }

      at_last_one : (i : ℕ) (home : Place) (p : V) → slice_get {X = Place × V} ((place var block, v) ∷ []) i ≡ Some (home, p) → (home ≡ place var block) × (p ≡ v)
      at_last_one i home p is =
          let e = (one_item (place var block, v) (home, p) i is).0 in
          (ap (λ (y : Place × V). y.0) e, ap (λ (y : Place × V). y.1) e)

      new : (home : Place) (p : V) → (home ≡ place var block) × (p ≡ v) → IsNew (λ x. x ≡ var) (block ∷ []) l s t home p
      new home p e =
          subst (λ y. IsNew (λ x. x ≡ var) (block ∷ []) l s t y p) (sym e.0) (subst (λ u. IsNew (λ x. x ≡ var) (block ∷ []) l s t (place var block) u) (sym e.1) here)

      by : (x b : ℕ) (p : V) → (found k.made x b ≡ Some p) ⊎ ((x ≡ var) × (b ≡ block)) → IsNoted k x ⊎ (x ≡ var)
      by x b p (inl is) = inl (by_made b p is)
      by x b p (inr e) = inr e.0

      notes : (x : ℕ) → IsNoted l x → IsNoted k x ⊎ (x ≡ var)
      notes x (by_made b p is) = by x b p (found_before k.made var block v x b p (ap (λ es. found es x b) (sym made) ∙ is))
      notes x (by_passed b stop is) = inl (by_passed b stop (ap (λ es. found es x b) (sym same_passed) ∙ is))
      notes x (by_lost b u is) = inl (by_lost b u (ap (λ es. found es x b) (sym same_lost) ∙ is))

  pub make_adds : Adds s t
  unfolding adds
  make_adds = adds

  pub make_standing : IsStanding (view l t var) (modes var) block v
  unfolding stands_there
  make_standing = record {
    found_there = was_made v (ap (λ ws. last_write ws var block) writes ∙ unwritten) found_there (sym stands_there.own);
    there = stands_there;
    alike = fit_mode k s t (modes var) block v fit;
  }

  pub make_open : AreOpen l t var (length k.made)
  make_open = record {
    for_var = λ i home p past at. ap (λ y. y.var) (last i home p past (at_last i home p at)).at;
    are_open = λ i home p past at.
        let e = last i home p past (at_last i home p at) in
        subst (λ y. IsOpen t y.block p) (sym e.at) (subst (λ u. IsOpen t block u) (sym e.is) (open_by fit));
  }
    where
      last : (i : ℕ) (home : Place) (p : V) → length k.made ≤ i → (slice_get k.made i ≡ Some (home, p)) ⊎ IsLast i home p
          → IsLast i home p
      last i home p past (inl at) = absurd (omega (arith, past, slice_get_within k.made i (home, p) at))
      last i home p past (inr e) = e

      open_by : IsFit k s t (modes var) block v → IsOpen t block v
      open_by (fit_start is none h) = inr (h.same_blocks.preds block ∙ none)
      open_by (fit_phi some was h) = inl h.kind_is

-- ---- where no value is made at the start of a block

module _ {V : Type 0} (modes : ℕ → Mode) (k : Known V) (s : Shape V) (kept : IsKept modes k s) where
  pub advances_refl : (var : ℕ) → Advances modes var k k s s
  advances_refl var = record { kept = kept; calls = calls_refl k; room = refl }

  -- nothing is made after the last
  pub none_open : (t : Shape V) (l : Known V) (var : ℕ) → l.made ≡ k.made → AreOpen l t var (length k.made)
  none_open t l var same = record {
    for_var = λ i home p past at. absurd (beyond i home p past at);
    are_open = λ i home p past at. absurd (beyond i home p past at);
  }
    where
      beyond : (i : ℕ) (home : Place) (p : V) → length k.made ≤ i → slice_get l.made i ≡ Some (home, p) → ⊥
      beyond i home p past at = omega (arith, past, slice_get_within l.made i (home, p) at, ap (λ es. length es) same)

  -- a value that is known stands in the block
  pub known_standing : (var block : ℕ) (u : V) → known_value k var block ≡ Some u → IsStanding (view k s var) (modes var) block (s.current u)
  known_standing var block u is = by (last_write k.writes var block) refl (found k.made var block) refl
    where
      standing : CanGive s (modes var) u → IsFound (view k s var) block (s.current u) → IsStanding (view k s var) (modes var) block (s.current u)
      standing c f = record { found_there = f; there = c.there; alike = c.alike }

      by : (w : Option V) → last_write k.writes var block ≡ w → (m : Option V) → found k.made var block ≡ m → IsStanding (view k s var) (modes var) block (s.current u)
      by (Some x) e m f =
          let same : x ≡ u = some_same x u (sym (ap (λ o. later_of (found k.made var block) o) e) ∙ is) in
          let at = written_at k.writes var block u (e ∙ ap Some same) in
          standing
          (subst (λ y. CanGive s (modes y) u) at.of_var (subst (λ y. CanGive s (modes at.write.var) y) at.value (kept.written at.index at.write at.is)))
          (was_written u (e ∙ ap Some same) refl)
      by None e (Some p) f =
          let same : p ≡ u = some_same p u (sym (ap (λ o. later_of o None) f) ∙ sym (ap (λ o. later_of (found k.made var block) o) e) ∙ is) in
          let at = found_at_index k.made var block u (f ∙ ap Some same) in
          standing (kept.made at.index (place var block) u at.is).can_give (was_made u e (f ∙ ap Some same) refl)
      by None e None f =
          absurd (none_is_not_some u (sym (ap (λ o. later_of o None) f) ∙ sym (ap (λ o. later_of (found k.made var block) o) e) ∙ is))

  -- the value that is known was there
  pub known_once : (var block : ℕ) (u : V) → known_value k var block ≡ Some u → s.kind u ≡ absent → ⊥
  known_once var block u is = by (last_write k.writes var block) refl (found k.made var block) refl
    where
      by : (w : Option V) → last_write k.writes var block ≡ w → (m : Option V) → found k.made var block ≡ m → s.kind u ≡ absent → ⊥
      by (Some x) e m f h =
          let same : x ≡ u = some_same x u (sym (ap (λ o. later_of (found k.made var block) o) e) ∙ is) in
          let at = written_at k.writes var block u (e ∙ ap Some same) in
          (kept.written at.index at.write at.is).once (ap s.kind at.value ∙ h)
      by None e (Some p) f h =
          let same : p ≡ u = some_same p u (sym (ap (λ o. later_of o None) f) ∙ sym (ap (λ o. later_of (found k.made var block) o) e) ∙ is) in
          let at = found_at_index k.made var block u (f ∙ ap Some same) in
          (kept.made at.index (place var block) u at.is).can_give.once h
      by None e None f h =
          none_is_not_some u (sym (ap (λ o. later_of o None) f) ∙ sym (ap (λ o. later_of (found k.made var block) o) e) ∙ is)

  -- the same, of what is the same
  pub same_advances : (var : ℕ) (l : Known V) → l ≡ k → Advances modes var k l s s
  same_advances var l same = subst (λ x. Advances modes var k x s s) (sym same) (advances_refl var)

  pub same_standing : (var block : ℕ) (u v : V) (l : Known V) → l ≡ k → known_value k var block ≡ Some u → v ≡ s.current u → IsStanding (view l s var) (modes var) block v
  same_standing var block u v l same is current =
      subst (λ x. IsStanding (view x s var) (modes var) block v) (sym same)
      (subst (λ x. IsStanding (view k s var) (modes var) block x) (sym current) (known_standing var block u is))

-- ---- a value for a block that no walk comes to

module _ {V : Type 0} (modes : ℕ → Mode) (k l : Known V) (s t : Shape V) (kept : IsKept modes k s) (var block : ℕ) (v : V)
    (endless : (n : ℕ) → Chain (view k s var) n block) (fresh : found k.lost var block ≡ None)
    (stands : Stands s t v block unknown (modes var))
    (made : l.made ≡ k.made) (same_sealed : l.sealed ≡ k.sealed) (writes : l.writes ≡ k.writes) (reads : l.reads ≡ k.reads) (same_passed : l.passed ≡ k.passed)
    (puts : Puts k.lost l.lost var block v) where
  lose_before : (x b : ℕ) (u : V) → found k.lost x b ≡ Some u → found l.lost x b ≡ Some u
  lose_before x b u is = puts.others x b (λ e f. none_is_not_some u (sym fresh ∙ ap (λ y. found k.lost y block) (sym e) ∙ ap (λ c. found k.lost x c) (sym f) ∙ is)) ∙ is

  pub lose_adds : Adds s t
  lose_adds = adds_by s t v block unknown (modes var) stands

  lose_moves : Moves k l s t
  lose_moves =
      moves_from k l s t (λ x b p is. ap (λ es. found es x b) made ∙ is) lose_before writes (λ b is. ap (λ fs. sealed_in fs b) same_sealed ∙ is) []
      (grows_by [] s t lose_adds)

  lose_lost : (x b : ℕ) (u : V) → found l.lost x b ≡ Some u → (x ≡ var) ⊎ (x ≡ var → ⊥) → (b ≡ block) ⊎ (b ≡ block → ⊥)
      → (found k.lost x b ≡ Some u) ⊎ IsLost (view l t x) (modes x) b u
  unfolding lose_moves
  lose_lost x b u is (inr d) f = inl (sym (puts.others x b (λ e g. d e)) ∙ is)
  lose_lost x b u is (inl e) (inr d) = inl (sym (puts.others x b (λ g f. d f)) ∙ is)
  lose_lost x b u is (inl e) (inl f) = inr (subst (λ y. IsLost (view l t y) (modes y) b u) (sym e) (subst (λ c. IsLost (view l t var) (modes var) c u) (sym f) here))
    where
      same : v ≡ u
      same = some_same v u (sym puts.here ∙ ap (λ y. found l.lost y block) (sym e) ∙ ap (λ c. found l.lost x c) (sym f) ∙ is)

      here : IsLost (view l t var) (modes var) block u
      here = subst (λ y. IsLost (view l t var) (modes var) block y) same (record {
        there = there_by s t v block unknown (modes var) (λ e. grind (arith, e)) (λ e. grind (arith, e)) stands;
        alike = stands.mode_is;
        kind_is = stands.kind_is;
        endless = λ n. chain_extends (view k s var) (view l t var) (moves_extends modes k l s t kept lose_moves var) n block (endless n);
      })

  pub lose_advances : Advances modes var k l s t
  unfolding lose_adds
  lose_advances = record {
    kept =
        kept_unmade modes k l s t kept lose_moves made (λ p some. (stands.keeps p some).kind)
        (λ x b stop is. inl (ap (λ es. found es x b) (sym same_passed) ∙ is))
        (λ x b u is. lose_lost x b u is (cases_eq x var) (cases_eq b block))
        (λ b is. ap (λ fs. sealed_in fs b) (sym same_sealed) ∙ is);
    calls = record { writes = writes; reads = reads; sealed = λ b. ap (λ fs. sealed_in fs b) same_sealed };
    room = ap (λ es. free_places es var s.blocks + length es) made;
  }

  pub lose_makes : ((x y : V) → (x ≡ y) ⊎ (x ≡ y → ⊥)) → Makes (λ x. x ≡ var) [] k l s t
  lose_makes decide = makes_none (λ x. x ≡ var) [] k l s t made lose_adds (λ u e. came u e (decide u v)) lose_before notes
    where
      came : (u : V) → s.kind u ≡ absent → (u ≡ v) ⊎ (u ≡ v → ⊥) → IsFresh l t u
      came u e (inl same) = is_unknown (ap t.kind same ∙ stands.kind_is)
      came u e (inr d) = not_there ((stands.alone u d).kind ∙ e)

      by : (x b : ℕ) (u : V) → found l.lost x b ≡ Some u → (x ≡ var) ⊎ (x ≡ var → ⊥) → IsNoted k x ⊎ (x ≡ var)
      by x b u is (inl e) = inr e
      by x b u is (inr d) = inl (by_lost b u (sym (puts.others x b (λ e g. d e)) ∙ is))

      notes : (x : ℕ) → IsNoted l x → IsNoted k x ⊎ (x ≡ var)
      notes x (by_made b p is) = inl (by_made b p (ap (λ es. found es x b) (sym made) ∙ is))
      notes x (by_passed b stop is) = inl (by_passed b stop (ap (λ es. found es x b) (sym same_passed) ∙ is))
      notes x (by_lost b u is) = by x b u is (cases_eq x var)
