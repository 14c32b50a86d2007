-- Phis are filled one after the other.
use Rattle.std.proofs.Common.{◌≡◌, ℕ, ◌+◌, ◌-◌, ◌<◌, ◌≤◌, ◌⊎◌, inl, inr, true, List, [], ◌∷◌, length, get_or, Some, None, refl, sym, ap, ◌∙◌, subst, arith}
use Rattle.std.proofs.lemmas.Bool.{cases_eq, cases_lt}
use Rattle.std.proofs.lemmas.List.{length-append}
use Rattle.std.proofs.lemmas.Option.{slice_get_within, slice_get-get_or}
use Rattle.std.specs.List.{slice_get}
use Rattle.ssa_core.specs.declared.places.Place.{Place}
use Rattle.ssa_core.specs.Places.{place, found}
use Rattle.ssa_core.specs.Shapes.{Shape, Mode, absent, phi, SameBlocks}
use Rattle.ssa_core.specs.Gives.{Full, joined}
use Rattle.ssa_core.specs.Known.{Known, sealed_in, view}
use Rattle.ssa_core.specs.Back.{ComesTo, ComesToOne}
use Rattle.ssa_core.specs.Building.{Stage, filled, waits, IsKept, IsDone, IsFresh, not_there, is_made, Makes, SameCalls}
use Rattle.ssa_core.specs.Steps.{Adds, Advances, AreGiven, IsFilled, IsOpen, AreOpen, AreReached, Settles, free_places}
use Rattle.ssa_core.proofs.Among.{FoundAt, found_at_index, get_front, found_kept, get_either, InSecond, none_is_not_some, some_same, append_none}
use Rattle.ssa_core.proofs.Endless.{comes_through}
use Rattle.ssa_core.proofs.Moves.{Moves, comes_one_moves, done_moves, phi_is_not_absent}
use Rattle.ssa_core.proofs.Making.{same_blocks_refl, same_blocks_trans, makes_refl, makes_moves, makes_trans, makes_through, calls_refl, calls_trans}
use Rattle.ssa_core.proofs.Standing.{advances_refl}
use Rattle.ssa_core.proofs.Filling.{fill_grows, fill_full, fill_kept}

-- ---- entries as lists grow

module _ {V : Type 0} (asked : ℕ → Type 0) (ends : List ℕ) (k l : Known V) (s t : Shape V) (makes : Makes asked ends k l s t) where
  pub entry_stays : (index : ℕ) (home : Place) (p : V) → slice_get k.made index ≡ Some (home, p) → slice_get l.made index ≡ Some (home, p)
  entry_stays index home p at = ap (λ es. slice_get es index) makes.made ∙ get_front k.made makes.more index (home, p) at

  pub entry_either : (index : ℕ) (home : Place) (p : V) → slice_get l.made index ≡ Some (home, p) → (slice_get k.made index ≡ Some (home, p)) ⊎ InSecond k.made makes.more index (home, p)
  entry_either index home p at = get_either k.made makes.more index (home, p) (ap (λ es. slice_get es index) (sym makes.made) ∙ at)

  pub entry_before : (index : ℕ) → index < length k.made → (home : Place) (p : V) → slice_get l.made index ≡ Some (home, p) → slice_get k.made index ≡ Some (home, p)
  entry_before index less home p at = by (entry_either index home p at)
    where
      by : (slice_get k.made index ≡ Some (home, p)) ⊎ InSecond k.made makes.more index (home, p) → slice_get k.made index ≡ Some (home, p)
      by (inl h) = h
      by (inr h) = absurd (omega (arith, less, h.past))

  pub longer : length k.made ≤ length l.made
  longer = omega (arith, ap (λ es. length es) makes.made, length-append k.made makes.more)

  pub done_stays : (modes : ℕ → Mode) → IsKept modes k s → SameCalls k l → (index : ℕ) → index < length k.made → IsDone k s index → IsDone l t index
  done_stays modes kept calls index less done =
      done_moves modes k l s t kept (makes_moves asked ends k l s t calls.writes (λ b is. calls.sealed b ∙ is) makes) index
      (entry_before index less) (λ b is. sym (calls.sealed b) ∙ is) l.made makes.grows done

  -- what was made later is reached too
  pub reached_after : (modes : ℕ → Mode) (start : ℕ) → IsKept modes k s → SameCalls k l → AreReached k s start ends → AreReached l t start ends
  reached_after modes start kept calls reached index home p past at = by (entry_either index home p at)
    where
      by : (slice_get k.made index ≡ Some (home, p)) ⊎ InSecond k.made makes.more index (home, p) → ComesToOne (view l t home.var) home.block ends
      by (inl h) =
          comes_one_moves modes k l s t kept (makes_moves asked ends k l s t calls.writes (λ b is. calls.sealed b ∙ is) makes) home.var home.block ends
          (reached index home p past h)
      by (inr h) = (makes.new h.index home p h.is).path

  pub reached_new : AreReached l t (length k.made) ends
  reached_new index home p past at = by (entry_either index home p at)
    where
      by : (slice_get k.made index ≡ Some (home, p)) ⊎ InSecond k.made makes.more index (home, p) → ComesToOne (view l t home.var) home.block ends
      by (inl h) = absurd (omega (arith, past, slice_get_within k.made index (home, p) h))
      by (inr h) = (makes.new h.index home p h.is).path

pub advances_trans : {V : Type 0} (modes : ℕ → Mode) (var : ℕ) (k l m : Known V) (s t u : Shape V) → SameBlocks s t → Advances modes var k l s t → Advances modes var l m t u
    → Advances modes var k m s u
advances_trans modes var k l m s t u same a b = record {
  kept = b.kept;
  calls = calls_trans k l m a.calls b.calls;
  room =
      sym (ap (λ n. free_places m.made var n + length m.made) same.blocks) ∙ b.room ∙ ap (λ n. free_places l.made var n + length l.made) same.blocks ∙ a.room;
}

-- ---- a Phi is filled

module _ {V : Type 0} (modes : ℕ → Mode) (decide : (x y : V) → (x ≡ y) ⊎ (x ≡ y → ⊥)) (k l : Known V) (s t u : Shape V) (kept : IsKept modes k s) (var block : ℕ) (p : V)
    (operands : List V) (made : found k.made var block ≡ Some p) (sealed : sealed_in k.sealed block ≡ true) (some : s.preds block ≡ [] → ⊥) (is_open : IsOpen s block p)
    (advances : Advances modes var k l s t) (makes : Makes (λ x. x ≡ var) (s.preds block) k l s t) (adds : Adds s t) (pending : AreOpen l t var (length k.made))
    (given : AreGiven (view l t var) (modes var) block operands) (all : length operands ≡ length (s.preds block)) (h : IsFilled t u p operands) where
  record Entry : Type 0 where
    index : ℕ
    before : slice_get k.made index ≡ Some (place var block, p)
    after : slice_get l.made index ≡ Some (place var block, p)

  entry : Entry
  entry =
      let at = found_at_index k.made var block p made in
      record { index = at.index; before = at.is; after = entry_stays (λ x. x ≡ var) (s.preds block) k l s t makes at.index (place var block) p at.is }

  empty_before : IsOpen s block p → s.kind p ≡ phi []
  empty_before (inl e) = e
  empty_before (inr none) = absurd (some none)

  empty : t.kind p ≡ phi []
  unfolding empty_before entry
  empty = (adds.keeps p (kept.made entry.index (place var block) p entry.before).can_give.once).kind ∙ empty_before is_open

  some_after : t.preds block ≡ [] → ⊥
  some_after none = some (sym (adds.same_blocks.preds block) ∙ none)

  sealed_after : sealed_in l.sealed block ≡ true
  sealed_after = advances.calls.sealed block ∙ sealed

  all_after : length operands ≡ length (t.preds block)
  all_after = all ∙ ap (λ qs. length qs) (sym (adds.same_blocks.preds block))

  pub filled_kept : IsKept modes l u
  unfolding entry empty some_after sealed_after all_after
  filled_kept = fill_kept modes decide l t u advances.kept var block entry.index p operands entry.after empty h some_after sealed_after given all_after

  pub filled_full : Full (view l u var) block p
  unfolding entry empty some_after sealed_after all_after
  filled_full = fill_full modes decide l t u advances.kept var block entry.index p operands entry.after empty h some_after sealed_after given all_after

  pub filled_advances : Advances modes var k l s u
  filled_advances = record { kept = filled_kept; calls = advances.calls; room = advances.room }

  pub filled_makes : Makes (λ x. x ≡ var) (s.preds block) k l s u
  unfolding entry empty some_after sealed_after all_after
  filled_makes =
      makes_trans (λ x. x ≡ var) (s.preds block) modes k l l s t u advances.kept (calls_refl l) makes (record {
        more = [];
        made = sym (append_none l.made);
        new = λ i home q is. absurd (none_is_not_some (home, q) is);
        grows = fill_grows modes decide l t u advances.kept var block entry.index p operands entry.after empty h some_after sealed_after given all_after;
        fresh = λ v e. by v e (decide v p);
        lost = λ x b v is. is;
        notes = λ x n. inl n;
      })
    where
      by : (v : V) → t.kind v ≡ absent → (v ≡ p) ⊎ (v ≡ p → ⊥) → IsFresh l u v
      by v e (inl same) = is_made (record { index = entry.index; place = place var block; is = entry.after ∙ ap (λ w. Some (place var block, w)) (sym same) })
      by v e (inr d) = not_there (h.kinds v d ∙ e)

  pub filled_others : (x : V) → (x ≡ p → ⊥) → (s.kind x ≡ absent → ⊥) → u.kind x ≡ s.kind x
  filled_others x d was = h.kinds x d ∙ (adds.keeps x was).kind

  pub filled_pending : (index start : ℕ) → slice_get k.made index ≡ Some (place var block, p) → index < start → AreOpen k s var start → AreOpen l u var start
  unfolding empty
  filled_pending index start at less before = record {
    for_var = λ i home q past is. var_by i home q past (entry_either (λ x. x ≡ var) (s.preds block) k l s t makes i home q is) is;
    are_open = λ i home q past is. open_by i home q past is (entry_either (λ x. x ≡ var) (s.preds block) k l s t makes i home q is);
  }
    where
      var_by : (i : ℕ) (home : Place) (q : V) → start ≤ i → (slice_get k.made i ≡ Some (home, q)) ⊎ InSecond k.made makes.more i (home, q) → slice_get l.made i ≡ Some (home, q) → home.var ≡ var
      var_by i home q past (inl was) is = before.for_var i home q past was
      var_by i home q past (inr new) is = pending.for_var i home q new.past is

      after : (home : Place) (q : V) → (q ≡ p → ⊥) → IsOpen t home.block q → IsOpen u home.block q
      after home q d (inl e) = inl (h.kinds q d ∙ e)
      after home q d (inr none) = inr (h.same_blocks.preds home.block ∙ none)

      differs : (i : ℕ) (home : Place) (q : V) → start ≤ i → slice_get l.made i ≡ Some (home, q) → q ≡ p → ⊥
      differs i home q past is e =
          let same = advances.kept.apart i index home (place var block) p [] (is ∙ ap (λ v. Some (home, v)) e)
          (entry_stays (λ x. x ≡ var) (s.preds block) k l s t makes index (place var block) p at) empty in
          omega (arith, same, past, less)

      open_by : (i : ℕ) (home : Place) (q : V) → start ≤ i → slice_get l.made i ≡ Some (home, q) → (slice_get k.made i ≡ Some (home, q)) ⊎ InSecond k.made makes.more i (home, q) → IsOpen u home.block q
      open_by i home q past is (inl was) = after home q (differs i home q past is) (stays (before.are_open i home q past was))
        where
          stays : IsOpen s home.block q → IsOpen t home.block q
          stays (inl e) = inl ((adds.keeps q (kept.made i home q was).can_give.once).kind ∙ e)
          stays (inr none) = inr (adds.same_blocks.preds home.block ∙ none)
      open_by i home q past is (inr new) = after home q (differs i home q past is) (pending.are_open i home q new.past is)

-- a made value has the mode of its variable, and stands in its block
pub made_mode : {V : Type 0} (modes : ℕ → Mode) (k : Known V) (s : Shape V) → IsKept modes k s → (var block : ℕ) (p : V) → found k.made var block ≡ Some p → s.mode p ≡ modes var
made_mode modes k s kept var block p made = let at = found_at_index k.made var block p made in (kept.made at.index (place var block) p at.is).alike

pub made_home : {V : Type 0} (modes : ℕ → Mode) (k : Known V) (s : Shape V) → IsKept modes k s → (var block : ℕ) (p : V) → found k.made var block ≡ Some p → s.block p ≡ block
made_home modes k s kept var block p made = let at = found_at_index k.made var block p made in (kept.made at.index (place var block) p at.is).home

pub found_after : {V : Type 0} (asked : ℕ → Type 0) (ends : List ℕ) (k l : Known V) (s t : Shape V) → Makes asked ends k l s t → (var block : ℕ) (p : V) → found k.made var block ≡ Some p
    → found l.made var block ≡ Some p
found_after asked ends k l s t makes var block p made = ap (λ es. found es var block) makes.made ∙ found_kept k.made makes.more var block p made

-- there is room for the operands
pub room_for : {V : Type 0} (s t : Shape V) (block : ℕ) (p : V) (operands : List V) → SameBlocks s t → t.block p ≡ block → length operands ≡ length (s.preds block)
    → length operands ≤ length (t.preds (t.block p))
room_for s t block p operands same home all = omega (arith, all, ap (λ qs. length qs) (ap t.preds home ∙ same.preds block))

pub no_preds : (qs : List ℕ) → length qs ≡ 0 → qs ≡ []
no_preds [] e = refl
no_preds (q ∷ qs) e = absurd (omega (arith, e))

-- where the block has no predecessor, the value is full as it is
pub full_alone : {V : Type 0} (modes : ℕ → Mode) (k : Known V) (s : Shape V) → IsKept modes k s → (var block : ℕ) (p : V) → found k.made var block ≡ Some p
    → s.preds block ≡ [] → Full (view k s var) block p
full_alone {V} modes k s kept var block p made none = by (kept.made at.index (place var block) p at.is).stage
  where
    at : FoundAt k.made var block p
    at = found_at_index k.made var block p made

    by : Stage (view k s var) block p → Full (view k s var) block p
    by (filled sealed full) = full
    by (waits empty own) =
        joined [] empty own (ap (λ qs. length qs) (sym none))
        (λ i pred is. absurd (none_is_not_some pred (ap (λ qs. slice_get qs i) (sym none) ∙ is)))

-- ---- one after the other

pub record Settling {V : Type 0} (modes : ℕ → Mode) (var : ℕ) (k l : Known V) (s t : Shape V) (start next : ℕ) : Type 0 where
  pub first_kept : IsKept modes k s
  pub advances : Advances modes var k l s t
  pub blocks : SameBlocks s t
  pub makes : (ends : List ℕ) → AreReached k s start ends → Makes (λ x. x ≡ var) ends k l s t
  pub pending : AreOpen l t var next
  pub earlier : (index : ℕ) → index < start → IsDone k s index → IsDone l t index
  pub later : (index : ℕ) → start ≤ index → index < next → IsDone l t index
  pub past : start ≤ next
  pub within : start ≤ length l.made
  pub first_within : start ≤ length k.made
  pub early : (index : ℕ) (home : Place) (p : V) → index < start → slice_get k.made index ≡ Some (home, p) → s.kind p ≡ phi [] → t.kind p ≡ phi []
  pub front : (index : ℕ) (home : Place) (p : V) → slice_get k.made index ≡ Some (home, p) → slice_get l.made index ≡ Some (home, p)

module _ {V : Type 0} (modes : ℕ → Mode) (var : ℕ) (k l : Known V) (s t : Shape V) (start next : ℕ) (r : Settling modes var k l s t start next)
    (home : Place) (p : V) (at : slice_get l.made next ≡ Some (home, p)) where
  of_var : home.var ≡ var
  of_var = r.pending.for_var next home p (omega arith) at

  here : place var home.block ≡ home
  here = ap (λ x. place x home.block) (sym of_var)

  at_var : slice_get l.made next ≡ Some (place var home.block, p)
  at_var = at ∙ ap (λ x. Some (x, p)) (sym here)

  pub next_made : found l.made var home.block ≡ Some p
  next_made = ap (λ x. found l.made x home.block) (sym of_var) ∙ r.advances.kept.once next home p at

  pub next_open : IsOpen t home.block p
  next_open = r.pending.are_open next home p (omega arith) at

  pub settle_bound : (free_places k.made var s.blocks + length k.made) - (next + 1) < (free_places k.made var s.blocks + length k.made) - next
  settle_bound = omega (arith, r.advances.room, slice_get_within l.made next (home, p) at)

  module _ (m : Known V) (u : Shape V) (advances : Advances modes var l m t u) (makes : Makes (λ x. x ≡ var) (t.preds home.block) l m t u)
      (others : (x : V) → (x ≡ p → ⊥) → (t.kind x ≡ absent → ⊥) → u.kind x ≡ t.kind x)
      (full : sealed_in m.sealed home.block ≡ true → Full (view m u var) home.block p)
      (pending : (index after : ℕ) → slice_get l.made index ≡ Some (place var home.block, p) → index < after → AreOpen l t var after → AreOpen m u var after) where
    moves : Moves l m t u
    moves = makes_moves (λ x. x ≡ var) (t.preds home.block) l m t u advances.calls.writes (λ b is. advances.calls.sealed b ∙ is) makes

    less : next < length l.made
    less = slice_get_within l.made next (home, p) at

    pub settle_next : Settling modes var k m s u start (next + 1)
    unfolding moves less of_var here at_var
    settle_next = record {
      first_kept = r.first_kept;
      advances = advances_trans modes var k l m s t u r.blocks r.advances advances;
      blocks = same_blocks_trans s t u r.blocks makes.grows.same_blocks;
      makes = λ ends reached.
          let before = r.makes ends reached in
          makes_trans (λ x. x ≡ var) ends modes k l m s t u r.advances.kept advances.calls before
          (makes_through (λ x. x ≡ var) (λ x. x ≡ var) (t.preds home.block) ends l m t u (λ x e. e)
          (through ends (reached_after (λ x. x ≡ var) ends k l s t before modes start r.first_kept r.advances.calls reached)) makes);
      pending = pending next (next + 1) at_var (omega arith) (record {
        for_var = λ i x q past is. r.pending.for_var i x q (omega (arith, past)) is;
        are_open = λ i x q past is. r.pending.are_open i x q (omega (arith, past)) is;
      });
      earlier = λ i before done. done_stays (λ x. x ≡ var) (t.preds home.block) l m t u makes modes r.advances.kept advances.calls i (omega (arith, before, r.past, less)) (r.earlier i before done);
      later = λ i past before. later i past (cases_eq i next) before;
      past = omega (arith, r.past);
      within = omega (arith, r.within, longer (λ x. x ≡ var) (t.preds home.block) l m t u makes);
      first_within = r.first_within;
      early = λ i x q before is empty. early i x q before is (r.early i x q before is empty);
      front = λ i x q is. entry_stays (λ y. y ≡ var) (t.preds home.block) l m t u makes i x q (r.front i x q is);
    }
      where
        through : (ends : List ℕ) → AreReached l t start ends → (x begin : ℕ) → x ≡ var → ComesToOne (view m u x) begin (t.preds home.block) → ComesToOne (view m u x) begin ends
        through ends reached x begin e h =
            let old = reached next home p r.past at in
            let new = comes_one_moves modes l m t u r.advances.kept moves home.var home.block ends old in
            subst (λ y. ComesToOne (view m u y) begin ends) (sym e) (record {
              place = new.place;
              chosen = new.chosen;
              is = new.is;
              path =
                  comes_through (view m u var) begin home.block new.chosen h.place h.chosen
                  (ap (λ qs. slice_get qs h.place) (makes.grows.same_blocks.preds home.block) ∙ h.is)
                  (subst (λ y. ComesTo (view m u y) begin h.chosen) e h.path) (subst (λ y. ComesTo (view m u y) home.block new.chosen) of_var new.path);
            })

        early : (i : ℕ) (x : Place) (q : V) → i < start → slice_get k.made i ≡ Some (x, q) → t.kind q ≡ phi [] → u.kind q ≡ phi []
        early i x q before is empty = others q differs (phi_is_not_absent (t.kind q) [] empty) ∙ empty
          where
            differs : q ≡ p → ⊥
            differs e = omega (arith, before, r.past, r.advances.kept.apart i next x home p [] (r.front i x q is ∙ ap (λ v. Some (x, v)) e) at (ap t.kind (sym e) ∙ empty))

        later : (i : ℕ) → start ≤ i → (i ≡ next) ⊎ (i ≡ next → ⊥) → i < next + 1 → IsDone m u i
        later i past (inr d) before =
            done_stays (λ x. x ≡ var) (t.preds home.block) l m t u makes modes r.advances.kept advances.calls i (omega (arith, before, d, less)) (r.later i past (omega (arith, before, d)))
        later i past (inl e) before = λ x q is sealed.
            let same = some_same (x, q) (home, p) (sym is ∙ ap (λ n. slice_get m.made n) e ∙ entry_stays (λ y. y ≡ var) (t.preds home.block) l m t u makes next home p at) in
            let place_same : x ≡ home = ap (λ (y : Place × V). y.0) same in
            let value_same : q ≡ p = ap (λ (y : Place × V). y.1) same in
            subst (λ y. Full (view m u y.var) y.block q) (sym place_same)
            (subst (λ y. Full (view m u home.var) home.block y) (sym value_same)
            (subst (λ y. Full (view m u y) home.block p) (sym of_var) (full (ap (λ y. sealed_in m.sealed y.block) (sym place_same) ∙ sealed))))

pub settle_start : {V : Type 0} (modes : ℕ → Mode) (var : ℕ) (k : Known V) (s : Shape V) (start : ℕ) → IsKept modes k s → AreOpen k s var start → start ≤ length k.made
    → Settling modes var k k s s start start
settle_start modes var k s start kept pending within = record {
  first_kept = kept;
  advances = advances_refl modes k s kept var;
  blocks = same_blocks_refl s;
  makes = λ ends reached. makes_refl (λ x. x ≡ var) ends k s;
  pending = pending;
  earlier = λ i less done. done;
  later = λ i past less. absurd (omega (arith, past, less));
  past = omega arith;
  within = within;
  first_within = within;
  early = λ i x q less is empty. empty;
  front = λ i x q is. is;
}

pub settle_end : {V : Type 0} (modes : ℕ → Mode) (var : ℕ) (k l : Known V) (s t : Shape V) (start next : ℕ) → Settling modes var k l s t start next → slice_get l.made next ≡ None
    → Settles k l s t start
settle_end {V} modes var k l s t start next r none = record {
  earlier = r.earlier;
  later = λ i past. by i past (cases_lt i next);
}
  where
    by : (i : ℕ) → start ≤ i → (i < next) ⊎ (next ≤ i) → IsDone l t i
    by i past (inl before) = r.later i past before
    by i past (inr le) = λ home p at sealed. absurd (omega (arith, le, slice_get_within l.made i (home, p) at, past_end (home, p) (cases_lt next (length l.made))))
      where
        past_end : Place × V → (next < length l.made) ⊎ (length l.made ≤ next) → length l.made ≤ next
        past_end x (inr h) = h
        past_end x (inl h) = absurd (none_is_not_some (get_or l.made next x) (sym none ∙ slice_get-get_or l.made next x h))

-- ---- a waiting Phi, and all that it makes

module _ {V : Type 0} (modes : ℕ → Mode) (k l m : Known V) (s t u : Shape V) (kept : IsKept modes k s) (index : ℕ) (home : Place) (p : V)
    (at : slice_get k.made index ≡ Some (home, p))
    (advances : Advances modes home.var k l s t) (makes : Makes (λ x. x ≡ home.var) (s.preds home.block) k l s t)
    (full : sealed_in l.sealed home.block ≡ true → Full (view l t home.var) home.block p)
    (advances' : Advances modes home.var l m t u)
    (makes' : (ends : List ℕ) → AreReached l t (length k.made) ends → Makes (λ x. x ≡ home.var) ends l m t u)
    (settles : Settles l m t u (length k.made))
    (changes : (x : V) → (x ≡ p → ⊥) → (s.kind x ≡ absent → ⊥) → t.kind x ≡ s.kind x)
    (early : (i : ℕ) (x : Place) (q : V) → i < length k.made → slice_get l.made i ≡ Some (x, q) → t.kind q ≡ phi [] → u.kind q ≡ phi []) where
  in_front : index < length k.made
  in_front = slice_get_within k.made index (home, p) at

  pub waiting_others : (i : ℕ) (x : Place) (q : V) → (i ≡ index → ⊥) → slice_get k.made i ≡ Some (x, q) → s.kind q ≡ phi [] → u.kind q ≡ phi []
  waiting_others i x q d is empty =
      early i x q (slice_get_within k.made i (x, q) is) (entry_stays (λ y. y ≡ home.var) (s.preds home.block) k l s t makes i x q is)
      (changes q differs (phi_is_not_absent (s.kind q) [] empty) ∙ empty)
    where
      differs : q ≡ p → ⊥
      differs e = d (kept.apart i index x home p [] (is ∙ ap (λ v. Some (x, v)) e) at (ap s.kind (sym e) ∙ empty))

  pub waiting_kept : IsKept modes m u
  waiting_kept = advances'.kept

  pub waiting_calls : SameCalls k m
  waiting_calls = calls_trans k l m advances.calls advances'.calls

  pub waiting_makes : (x : Place) (q : V) → slice_get k.made index ≡ Some (x, q) → Makes (λ y. y ≡ x.var) (s.preds x.block) k m s u
  waiting_makes x q is =
      subst (λ y. Makes (λ z. z ≡ y.var) (s.preds y.block) k m s u)
      (ap (λ (y : Place × V). y.0) (some_same (home, p) (x, q) (sym at ∙ is)))
      (makes_trans (λ y. y ≡ home.var) (s.preds home.block) modes k l m s t u advances.kept advances'.calls makes
      (makes' (s.preds home.block) (reached_new (λ y. y ≡ home.var) (s.preds home.block) k l s t makes)))

  pub waiting_none : slice_get k.made index ≡ None → Makes (λ x. ⊥) [] k m s u
  waiting_none none = absurd (none_is_not_some (home, p) (sym none ∙ at))

  pub waiting_here : IsDone m u index
  unfolding in_front
  waiting_here = settles.earlier index in_front here
    where
      here : IsDone l t index
      here x q is sealed =
          let same = some_same (home, p) (x, q) (sym (entry_stays (λ y. y ≡ home.var) (s.preds home.block) k l s t makes index home p at) ∙ is) in
          let place_same : home ≡ x = ap (λ (y : Place × V). y.0) same in
          let value_same : p ≡ q = ap (λ (y : Place × V). y.1) same in
          subst (λ y. Full (view l t y.var) y.block q) place_same
          (subst (λ y. Full (view l t home.var) home.block y) value_same (full (ap (λ y. sealed_in l.sealed y.block) place_same ∙ sealed)))

  pub waiting_settles : Settles k m s u (length k.made)
  waiting_settles = record {
    earlier = λ i before done.
        settles.earlier i before (done_stays (λ y. y ≡ home.var) (s.preds home.block) k l s t makes modes kept advances.calls i before done);
    later = settles.later;
  }

-- where there is no entry
module _ {V : Type 0} (modes : ℕ → Mode) (k : Known V) (s : Shape V) (index : ℕ) (none : slice_get k.made index ≡ None) where
  pub absent_makes : (x : Place) (q : V) → slice_get k.made index ≡ Some (x, q) → Makes (λ y. y ≡ x.var) (s.preds x.block) k k s s
  absent_makes x q is = absurd (none_is_not_some (x, q) (sym none ∙ is))

  pub absent_none : Makes (λ x. ⊥) [] k k s s
  absent_none = makes_refl (λ x. ⊥) [] k s

  pub absent_here : IsDone k s index
  absent_here x q is = absurd (none_is_not_some (x, q) (sym none ∙ is))

  pub absent_others : (i : ℕ) (x : Place) (q : V) → (i ≡ index → ⊥) → slice_get k.made i ≡ Some (x, q) → s.kind q ≡ phi [] → s.kind q ≡ phi []
  absent_others i x q d is empty = empty

  pub absent_settles : Settles k k s s (length k.made)
  absent_settles = record {
    earlier = λ i before done. done;
    later = λ i past x q is. absurd (omega (arith, past, slice_get_within k.made i (x, q) is));
  }
