-- What a part of a call keeps: where values come and lists grow, what always holds holds again.
use Rattle.std.proofs.Common.{◌≡◌, ℕ, zero, suc, ◌<◌, ◌⊎◌, inl, inr, true, List, [], Some, sym, ap, ◌∙◌, subst, arith}
use Rattle.std.specs.List.{slice_get}
use Rattle.ssa_core.specs.declared.places.Place.{Place}
use Rattle.ssa_core.specs.Places.{place, found}
use Rattle.ssa_core.specs.Shapes.{Shape, Mode, ValueKind, absent, gone, unknown, phi, IsThere, SameBlocks, SamePlace}
use Rattle.ssa_core.specs.Gives.{Full}
use Rattle.ssa_core.specs.Known.{Known, last_write, sealed_in, view}
use Rattle.ssa_core.specs.Back.{Back, stay, back, ComesTo, there, over, ComesToOne, IsGiven, IsLost, IsPassed}
use Rattle.ssa_core.specs.Building.{CanGive, Stage, filled, waits, MadeWell, IsKept, IsDone, Gains, same_kind, gets, Grows}
use Rattle.ssa_core.specs.Steps.{Adds}
use Rattle.ssa_core.proofs.Among.{found_at_index, written_at}
use Rattle.ssa_core.proofs.Keeps.{Extends, chain_extends, gives_at_end, full_extends}

-- from k and s on to l and t
pub record Moves {V : Type 0} (k l : Known V) (s t : Shape V) : Type 0 where
  pub made : (x b : ℕ) (p : V) → found k.made x b ≡ Some p → found l.made x b ≡ Some p
  pub lost : (x b : ℕ) (v : V) → found k.lost x b ≡ Some v → found l.lost x b ≡ Some v
  pub writes : l.writes ≡ k.writes
  pub sealed : (b : ℕ) → sealed_in k.sealed b ≡ true → sealed_in l.sealed b ≡ true
  pub same_blocks : SameBlocks s t
  pub places : (v : V) → (s.kind v ≡ absent → ⊥) → SamePlace s t v
  pub unknowns : (v : V) → s.kind v ≡ unknown → t.kind v ≡ unknown
  pub once : (v : V) → (s.kind v ≡ absent → ⊥) → t.kind v ≡ absent → ⊥
  pub still : (v : V) → IsThere s v → t.kind v ≡ gone → ⊥

pub unknown_is_not_absent : {V : Type 0} (kind : ValueKind V) → kind ≡ unknown → kind ≡ absent → ⊥
unknown_is_not_absent kind e f = grind (arith, e, f)

pub phi_is_not_absent : {V : Type 0} (kind : ValueKind V) (operands : List V) → kind ≡ phi operands → kind ≡ absent → ⊥
phi_is_not_absent kind operands e f = grind (arith, e, f)

pub phi_is_not_gone : {V : Type 0} (kind : ValueKind V) (operands : List V) → kind ≡ phi operands → kind ≡ gone → ⊥
phi_is_not_gone kind operands e f = grind (arith, e, f)

pub phi_is_not_unknown : {V : Type 0} (kind : ValueKind V) (operands : List V) → kind ≡ phi operands → kind ≡ unknown → ⊥
phi_is_not_unknown kind operands e f = grind (arith, e, f)

pub same_lists : {V : Type 0} (kind : ValueKind V) (xs ys : List V) → kind ≡ phi xs → kind ≡ phi ys → xs ≡ ys
same_lists kind xs ys e f = grind (arith, e, f)

-- ---- moves from what calls say

module _ {V : Type 0} where
  pub moves_from : (k l : Known V) (s t : Shape V)
      → ((x b : ℕ) (p : V) → found k.made x b ≡ Some p → found l.made x b ≡ Some p)
      → ((x b : ℕ) (v : V) → found k.lost x b ≡ Some v → found l.lost x b ≡ Some v)
      → l.writes ≡ k.writes → ((b : ℕ) → sealed_in k.sealed b ≡ true → sealed_in l.sealed b ≡ true)
      → (made : List (Place × V)) → Grows made s t → Moves k l s t
  moves_from k l s t made_stays lost_stays writes sealed made grows = record {
    made = made_stays;
    lost = lost_stays;
    writes = writes;
    sealed = sealed;
    same_blocks = grows.same_blocks;
    places = grows.places;
    unknowns = λ v is. unknowns v is (grows.kinds v (unknown_is_not_absent (s.kind v) is));
    once = λ v some. once v some (grows.kinds v some);
    still = λ v h. still v h (grows.kinds v h.once);
  }
    where
      unknowns : (v : V) → s.kind v ≡ unknown → Gains made s t v → t.kind v ≡ unknown
      unknowns v is (same_kind e) = e ∙ is
      unknowns v is (gets operands e some f among) = absurd (phi_is_not_unknown (s.kind v) [] e is)

      once : (v : V) → (s.kind v ≡ absent → ⊥) → Gains made s t v → t.kind v ≡ absent → ⊥
      once v some (same_kind e) h = some (sym e ∙ h)
      once v some (gets operands e more f among) h = phi_is_not_absent (t.kind v) operands f h

      still : (v : V) → IsThere s v → Gains made s t v → t.kind v ≡ gone → ⊥
      still v old (same_kind e) h = old.still (sym e ∙ h)
      still v old (gets operands e more f among) h = phi_is_not_gone (t.kind v) operands f h

  pub grows_by : (made : List (Place × V)) (s t : Shape V) → Adds s t → Grows made s t
  grows_by made s t adds = record {
    same_blocks = adds.same_blocks;
    places = λ v some. (adds.keeps v some).place;
    kinds = λ v some. same_kind (adds.keeps v some).kind;
  }

module _ {V : Type 0} (modes : ℕ → Mode) (k l : Known V) (s t : Shape V) (kept : IsKept modes k s) (m : Moves k l s t) where
  pub moves_extends : (x : ℕ) → Extends (view k s x) (view l t x)
  moves_extends x = record {
    preds = λ b sealed. m.same_blocks.preds b;
    sealed = m.sealed;
    wrote = λ b. ap (λ ws. last_write ws x b) m.writes;
    wrote_stays = λ b u is. let at = written_at k.writes x b u is in
        (m.places u (λ e. (kept.written at.index at.write at.is).once (ap s.kind at.value ∙ e))).current;
    made = m.made x;
    made_stays = λ b p is. let at = found_at_index k.made x b p is in
        (m.places p (kept.made at.index (place x b) p at.is).can_give.once).current;
    lost = m.lost x;
    unknown_stays = λ b v is. m.unknowns v;
  }

  pub there_moves : (v : V) → IsThere s v → IsThere t v
  there_moves v h = record {
    once = m.once v h.once;
    still = m.still v h;
    own = (m.places v h.once).current ∙ h.own;
  }

  pub can_give_moves : (mode : Mode) (u : V) → CanGive s mode u → CanGive t mode u
  can_give_moves mode u c =
      let same = (m.places u c.once).current in
      record {
        once = m.once u c.once;
        there = subst (λ x. IsThere t x) (sym same) (there_moves (s.current u) c.there);
        alike = ap t.mode same ∙ (m.places (s.current u) c.there.once).mode ∙ c.alike;
      }

  pub back_moves : (x n b stop : ℕ) → Back (view k s x) n b stop → Back (view l t x) n b stop
  back_moves x zero b stop stay = stay
  back_moves x (suc n) b stop (back q sealed unwritten preds way) =
      back q (m.sealed b sealed) (ap (λ ws. last_write ws x b) m.writes ∙ unwritten) (m.same_blocks.preds b ∙ preds) (back_moves x n q stop way)

  pub passed_moves : (x b stop : ℕ) → IsPassed (view k s x) b stop → IsPassed (view l t x) b stop
  passed_moves x b stop h = record {
    sealed = m.sealed b h.sealed;
    before = h.before;
    preds = m.same_blocks.preds b ∙ h.preds;
    steps = h.steps;
    way = back_moves x h.steps h.before stop h.way;
    within = subst (λ n. stop < n) (sym m.same_blocks.blocks) h.within;
  }

  pub lost_moves : (x : ℕ) (mode : Mode) (b : ℕ) (v : V) → IsLost (view k s x) mode b v → IsLost (view l t x) mode b v
  lost_moves x mode b v h = record {
    there = there_moves v h.there;
    alike = (m.places v h.there.once).mode ∙ h.alike;
    kind_is = m.unknowns v h.kind_is;
    endless = λ n. chain_extends (view k s x) (view l t x) (moves_extends x) n b (h.endless n);
  }

  pub comes_moves : (x start b : ℕ) → ComesTo (view k s x) start b → ComesTo (view l t x) start b
  comes_moves x start b (there none) = there (ap (λ ws. last_write ws x start) m.writes ∙ none)
  comes_moves x start b (over q i is none way) =
      over q i (ap (λ qs. slice_get qs i) (m.same_blocks.preds b) ∙ is) (ap (λ ws. last_write ws x b) m.writes ∙ none) (comes_moves x start q way)

  pub comes_one_moves : (x start : ℕ) (ends : List ℕ) → ComesToOne (view k s x) start ends → ComesToOne (view l t x) start ends
  comes_one_moves x start ends h = record { place = h.place; chosen = h.chosen; is = h.is; path = comes_moves x start h.chosen h.path }

  pub given_moves : (x : ℕ) (mode : Mode) (b : ℕ) (v : V) → IsGiven (view k s x) mode b v → IsGiven (view l t x) mode b v
  given_moves x mode b v h = record {
    gives = gives_at_end (view k s x) (view l t x) (moves_extends x) b v h.gives;
    there = there_moves v h.there;
    alike = (m.places v h.there.once).mode ∙ h.alike;
  }

  -- a made value whose kind is the same, or that gets operands
  pub full_moves : (x b : ℕ) (p : V) → found k.made x b ≡ Some p → s.block p ≡ b → (made : List (Place × V)) → Gains made s t p → Full (view k s x) b p → Full (view l t x) b p
  full_moves x b p is home made gains full = full_extends (view k s x) (view l t x) (moves_extends x) b p is (by gains) (m.same_blocks.preds b) full
    where
      by : Gains made s t p → (t.kind p ≡ s.kind p) ⊎ ((s.kind p ≡ phi []) × (s.preds b ≡ [] → ⊥))
      by (same_kind e) = inl e
      by (gets operands e some f among) = inr (e, λ none. some (ap s.preds home ∙ none))

  pub stage_moves : (x b : ℕ) (p : V) → found k.made x b ≡ Some p → t.kind p ≡ s.kind p → Stage (view k s x) b p → Stage (view l t x) b p
  stage_moves x b p is kind (filled sealed full) =
      filled (m.sealed b sealed) (full_extends (view k s x) (view l t x) (moves_extends x) b p is (inl kind) (m.same_blocks.preds b) full)
  stage_moves x b p is kind (waits empty own) = waits (kind ∙ empty) ((moves_extends x).made_stays b p is ∙ own)

  pub made_moves : (x : ℕ) (mode : Mode) (b : ℕ) (p : V) → MadeWell (view k s x) mode b p → Stage (view l t x) b p → MadeWell (view l t x) mode b p
  made_moves x mode b p h stage = record {
    home = (m.places p h.can_give.once).block ∙ h.home;
    within = subst (λ n. b < n) (sym m.same_blocks.blocks) h.within;
    alike = (m.places p h.can_give.once).mode ∙ h.alike;
    can_give = can_give_moves mode p h.can_give;
    stage = stage;
  }

  -- what always holds, from what is new
  pub kept_from : ((index : ℕ) (home : Place) (p : V) → slice_get l.made index ≡ Some (home, p) → MadeWell (view l t home.var) (modes home.var) home.block p)
      → ((index : ℕ) (home : Place) (p : V) → slice_get l.made index ≡ Some (home, p) → found l.made home.var home.block ≡ Some p)
      → ((i j : ℕ) (x y : Place) (p : V) (operands : List V) → slice_get l.made i ≡ Some (x, p) → slice_get l.made j ≡ Some (y, p) → t.kind p ≡ phi operands → i ≡ j)
      → ((x b stop : ℕ) → found l.passed x b ≡ Some stop → (found k.passed x b ≡ Some stop) ⊎ IsPassed (view l t x) b stop)
      → ((x b : ℕ) (v : V) → found l.lost x b ≡ Some v → (found k.lost x b ≡ Some v) ⊎ IsLost (view l t x) (modes x) b v)
      → ((b : ℕ) → sealed_in l.sealed b ≡ true → b < t.blocks)
      → IsKept modes l t
  kept_from made once apart passed lost sealed = record {
    written = λ index w at. can_give_moves (modes w.var) w.value (kept.written index w (ap (λ ws. slice_get ws index) (sym m.writes) ∙ at));
    made = made;
    once = once;
    apart = apart;
    passed = λ x b stop is. by_passed x b stop (passed x b stop is);
    lost = λ x b v is. by_lost x b v (lost x b v is);
    sealed = sealed;
  }
    where
      by_passed : (x b stop : ℕ) → (found k.passed x b ≡ Some stop) ⊎ IsPassed (view l t x) b stop → IsPassed (view l t x) b stop
      by_passed x b stop (inl is) = passed_moves x b stop (kept.passed x b stop is)
      by_passed x b stop (inr h) = h

      by_lost : (x b : ℕ) (v : V) → (found k.lost x b ≡ Some v) ⊎ IsLost (view l t x) (modes x) b v → IsLost (view l t x) (modes x) b v
      by_lost x b v (inl is) = lost_moves x (modes x) b v (kept.lost x b v is)
      by_lost x b v (inr h) = h

  -- where no value is made, and none gets operands
  pub kept_unmade : l.made ≡ k.made → ((v : V) → (s.kind v ≡ absent → ⊥) → t.kind v ≡ s.kind v)
      → ((x b stop : ℕ) → found l.passed x b ≡ Some stop → (found k.passed x b ≡ Some stop) ⊎ IsPassed (view l t x) b stop)
      → ((x b : ℕ) (v : V) → found l.lost x b ≡ Some v → (found k.lost x b ≡ Some v) ⊎ IsLost (view l t x) (modes x) b v)
      → ((b : ℕ) → sealed_in l.sealed b ≡ true → sealed_in k.sealed b ≡ true)
      → IsKept modes l t
  kept_unmade same kinds passed lost sealed =
      kept_from
      (λ index home p at.
      let h = kept.made index home p (before index home p at) in
      made_moves home.var (modes home.var) home.block p h
      (stage_moves home.var home.block p (kept.once index home p (before index home p at)) (kinds p h.can_give.once) h.stage))
      (λ index home p at. m.made home.var home.block p (kept.once index home p (before index home p at)))
      (λ i j x y p operands ati atj is.
      kept.apart i j x y p operands (before i x p ati) (before j y p atj)
      (sym (kinds p (kept.made i x p (before i x p ati)).can_give.once) ∙ is))
      passed lost
      (λ b h. subst (λ n. b < n) (sym m.same_blocks.blocks) (kept.sealed b (sealed b h)))
    where
      before : (index : ℕ) (home : Place) (p : V) → slice_get l.made index ≡ Some (home, p) → slice_get k.made index ≡ Some (home, p)
      before index home p at = ap (λ es. slice_get es index) (sym same) ∙ at

  -- a done value stays so
  pub done_moves : (index : ℕ) → ((home : Place) (p : V) → slice_get l.made index ≡ Some (home, p) → slice_get k.made index ≡ Some (home, p))
      → ((b : ℕ) → sealed_in l.sealed b ≡ true → sealed_in k.sealed b ≡ true)
      → (made : List (Place × V)) → Grows made s t → IsDone k s index → IsDone l t index
  done_moves index before sealed made grows done home p at is =
      let was = before home p at in
      let h = kept.made index home p was in
      full_moves home.var home.block p (kept.once index home p was) h.home made (grows.kinds p h.can_give.once) (done home p was (sealed home.block is))
