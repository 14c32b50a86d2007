-- Going back from a block, and what is found there.
use Rattle.std.proofs.Common.{◌≡◌, ℕ, suc, ◌+◌, ◌<◌, ◌≤◌, ◌⊎◌, inl, inr, Bool, true, false, List, [], ◌∷◌, ◌++◌, length, Option, Some, None, refl, sym, ap, ◌∙◌, subst, arith}
use Rattle.std.proofs.lemmas.List.{length-append}
use Rattle.std.proofs.lemmas.Bool.{cases_eq}
use Rattle.std.proofs.lemmas.Option.{slice_get_within}
use Rattle.std.specs.List.{slice_get}
use Rattle.std.specs.Option.{unwrap_or}
use Rattle.ssa_core.specs.declared.places.Place.{Place}
use Rattle.ssa_core.specs.Places.{place, found, Puts}
use Rattle.ssa_core.specs.Shapes.{Shape, Mode, SameValue}
use Rattle.ssa_core.specs.Gives.{View, endless, Chain}
use Rattle.ssa_core.specs.Known.{Known, last_write, sealed_in, view}
use Rattle.ssa_core.specs.Back.{Back, stay, back, CanPass, IsFound, ComesToOne, IsGiven, IsRead, IsPassed, ComesTo}
use Rattle.ssa_core.specs.Building.{IsKept, IsNoted, by_made, by_passed, by_lost, Makes, SameCalls, not_there}
use Rattle.ssa_core.specs.Steps.{Adds, Advances, StepsBack, WentBack, IsOnTrail, IsTrailNoted, IsStanding, GivenFor, AreGiven, IsOpen, AreOpen, free_places}
use Rattle.ssa_core.proofs.Among.{get_front, get_last, get_pushed, one_item, none_is_not_some, some_same, get_either, InSecond}
use Rattle.ssa_core.proofs.Endless.{Far, far, endless_where_long, far_chain, no_nearest, one_nearest, back_more, back_gives, back_comes}
use Rattle.ssa_core.proofs.Moves.{Moves, moves_from, grows_by, back_moves, kept_unmade, given_moves}
use Rattle.ssa_core.proofs.Making.{adds_refl, adds_trans, makes_none, makes_trans, makes_moves, makes_through, calls_trans}

pub sealed_below : (flags : List Bool) (b : ℕ) → sealed_in flags b ≡ true → b < length flags
sealed_below flags b is = by (slice_get flags b) refl
  where
    by : (o : Option Bool) → slice_get flags b ≡ o → b < length flags
    by (Some x) e = slice_get_within flags b x e
    by None e = absurd (grind (arith, is, ap (λ o. unwrap_or o false) e))

-- ---- going back

pub steps_back : {V : Type 0} (k : View V) (b q : ℕ) → k.sealed b ≡ true → k.wrote b ≡ None → length (k.shape.preds b) ≡ 1 → slice_get (k.shape.preds b) 0 ≡ Some q
    → q < k.shape.blocks → StepsBack k b q
steps_back k b q sealed unwritten one at within = record {
  passed = record { sealed = sealed; before = q; preds = by (k.shape.preds b) one at; steps = 0; way = stay; within = within };
  unwritten = unwritten;
}
  where
    by : (qs : List ℕ) → length qs ≡ 1 → slice_get qs 0 ≡ Some q → qs ≡ q ∷ []
    by [] size is = absurd (omega (arith, size))
    by (x ∷ []) size is = ap (λ y. y ∷ []) (some_same x q is)
    by (x ∷ y ∷ qs) size is = absurd (omega (arith, size))

-- on the way back: the blocks of the trail were passed
pub record Going {V : Type 0} (k : View V) (b : ℕ) (trail : List ℕ) (at : ℕ) : Type 0 where
  pub steps : ℕ
  pub way : Back k steps b at
  pub long : length trail ≤ steps
  pub each : (i x : ℕ) → slice_get trail i ≡ Some x → IsPassed k x at
  pub within : at < k.shape.blocks

module _ {V : Type 0} (k : View V) where
  pub going_start : (b : ℕ) (trail : List ℕ) → trail ≡ [] → b < k.shape.blocks → Going k b trail b
  going_start b trail none within = record {
    steps = 0;
    way = stay;
    long = omega (arith, ap (λ xs. length xs) none);
    each = λ i x at. absurd (none_is_not_some x (sym (ap (λ xs. slice_get xs i) none) ∙ at));
    within = within;
  }

  step_way : (b next : ℕ) → (h : StepsBack k b next) → Back k (suc h.passed.steps) b next
  step_way b next h = back h.passed.before h.passed.sealed h.unwritten h.passed.preds h.passed.way

  pub going_on : (b at next : ℕ) (trail more : List ℕ) → Going k b trail at → StepsBack k at next → more ≡ trail ++ at ∷ [] → Going k b more next
  going_on b at next trail more g h is = record {
    steps = g.steps + suc h.passed.steps;
    way = back_more k g.steps (suc h.passed.steps) b at next g.way (step_way at next h);
    long = omega (arith, g.long, ap (λ xs. length xs) is, length-append trail (at ∷ []));
    each = λ i x there. by i x (get_pushed trail at x i (ap (λ xs. slice_get xs i) (sym is) ∙ there));
    within = h.passed.within;
  }
    where
      by : (i x : ℕ) → (slice_get trail i ≡ Some x) ⊎ ((x ≡ at) × (i ≡ length trail)) → IsPassed k x next
      by i x (inl there) =
          let p = g.each i x there in
          record {
            sealed = p.sealed;
            before = p.before;
            preds = p.preds;
            steps = p.steps + suc h.passed.steps;
            way = back_more k p.steps (suc h.passed.steps) p.before at next p.way (step_way at next h);
            within = h.passed.within;
          }
      by i x (inr e) = subst (λ y. IsPassed k y next) (sym e.0) h.passed

  pub went_back : (limit b stop : ℕ) (trail : List ℕ) → Going k b trail stop → (length trail ≤ limit → CanPass k stop → ⊥) → WentBack k limit b trail stop
  went_back limit b stop trail g ends = record { steps = g.steps; way = g.way; long = g.long; each = g.each; within = g.within; ends = ends }

-- ---- the trail is noted

module _ {V : Type 0} (modes : ℕ → Mode) (k : Known V) (s : Shape V) (kept : IsKept modes k s) (var stop : ℕ) (trail : List ℕ)
    (each : (i x : ℕ) → slice_get trail i ≡ Some x → IsPassed (view k s var) x stop) where
  noted_at : (ps : List (Place × ℕ)) → IsTrailNoted k.passed ps var trail stop → IsKept modes (record k { passed = ps }) s
  noted_at ps noted =
      kept_unmade modes k (record k { passed = ps }) s s kept
      (moves_from k (record k { passed = ps }) s s (λ x b p is. is) (λ x b v is. is) refl (λ b is. is) [] (grows_by [] s s (adds_refl s)))
      refl (λ v some. refl) (λ x b n is. by x b n (noted x b n is)) (λ x b v is. inl is) (λ b is. is)
    where
      by : (x b n : ℕ) → (found k.passed x b ≡ Some n) ⊎ IsOnTrail var trail stop x b n → (found k.passed x b ≡ Some n) ⊎ IsPassed (view k s x) b n
      by x b n (inl is) = inl is
      by x b n (inr h) =
          inr (subst (λ y. IsPassed (view k s y) b n) (sym h.of_var) (subst (λ y. IsPassed (view k s var) b y) (sym h.to_stop) (each h.index b h.is)))

  pub noted_kept : (l : Known V) → l ≡ record k { passed = l.passed } → IsTrailNoted k.passed l.passed var trail stop → IsKept modes l s
  noted_kept l rest noted = subst (λ x. IsKept modes x s) (sym rest) (noted_at l.passed noted)

  pub noted_ends : (l : Known V) → l ≡ record k { passed = l.passed } → (CanPass (view k s var) stop → ⊥) → CanPass (view l s var) stop → ⊥
  noted_ends l rest ends can = ends (subst (λ x. CanPass (view x s var) stop) rest can)

  noted_makes_at : (ends : List ℕ) (ps : List (Place × ℕ)) → IsTrailNoted k.passed ps var trail stop → Makes (λ x. x ≡ var) ends k (record k { passed = ps }) s s
  noted_makes_at ends ps noted =
      makes_none (λ x. x ≡ var) ends k (record k { passed = ps }) s s refl (adds_refl s) (λ v e. not_there e) (λ x b v is. is) notes
    where
      by : (x b n : ℕ) → (found k.passed x b ≡ Some n) ⊎ IsOnTrail var trail stop x b n → IsNoted k x ⊎ (x ≡ var)
      by x b n (inl is) = inl (by_passed b n is)
      by x b n (inr h) = inr h.of_var

      notes : (x : ℕ) → IsNoted (record k { passed = ps }) x → IsNoted k x ⊎ (x ≡ var)
      notes x (by_made b p is) = inl (by_made b p is)
      notes x (by_passed b n is) = by x b n (noted x b n is)
      notes x (by_lost b v is) = inl (by_lost b v is)

  pub noted_makes : (ends : List ℕ) (l : Known V) → l ≡ record k { passed = l.passed } → IsTrailNoted k.passed l.passed var trail stop → Makes (λ x. x ≡ var) ends k l s s
  noted_makes ends l rest noted = subst (λ x. Makes (λ y. y ≡ var) ends k x s s) (sym rest) (noted_makes_at ends l.passed noted)

-- ---- what is found

module _ {V : Type 0} (modes : ℕ → Mode) (k l m : Known V) (s t : Shape V) (kept : IsKept modes k s) (var block stop limit : ℕ) (v : V) (trail : List ℕ)
    (went : WentBack (view k s var) limit block trail stop) (short : length trail ≤ limit) (rest : l ≡ record k { passed = l.passed })
    (noted : IsTrailNoted k.passed l.passed var trail stop)
    (advances : Advances modes var l m s t) (makes : Makes (λ x. x ≡ var) (stop ∷ []) l m s t) (standing : IsStanding (view m t var) (modes var) stop v)
    (pending : AreOpen m t var (length l.made)) where
  same_calls : SameCalls k l
  same_calls = record {
    writes = ap (λ x. x.writes) rest;
    reads = ap (λ x. x.reads) rest;
    sealed = λ b. ap (λ x. sealed_in x.sealed b) rest;
  }

  pub stand_advances : Advances modes var k m s t
  unfolding same_calls
  stand_advances = record {
    kept = advances.kept;
    calls = calls_trans k l m same_calls advances.calls;
    room = advances.room ∙ ap (λ x. free_places x.made var s.blocks + length x.made) rest;
  }

  kept_l : IsKept modes l s
  kept_l = noted_kept modes k s kept var stop trail went.each l rest noted

  moves_l : Moves l m s t
  moves_l = makes_moves (λ x. x ≡ var) (stop ∷ []) l m s t advances.calls.writes (λ b is. advances.calls.sealed b ∙ is) makes

  way : Back (view m t var) went.steps block stop
  unfolding kept_l moves_l
  way = back_moves modes l m s t kept_l moves_l var went.steps block stop (subst (λ x. Back (view x s var) went.steps block stop) (sym rest) went.way)

  pub stand_makes : Makes (λ x. x ≡ var) (block ∷ []) k m s t
  unfolding kept_l
  stand_makes =
      makes_trans (λ x. x ≡ var) (block ∷ []) modes k l m s s t kept_l advances.calls
      (noted_makes modes k s kept var stop trail went.each (block ∷ []) l rest noted)
      (makes_through (λ x. x ≡ var) (λ x. x ≡ var) (stop ∷ []) (block ∷ []) l m s t (λ x e. e) through makes)
    where
      through : (x start : ℕ) → x ≡ var → ComesToOne (view m t x) start (stop ∷ []) → ComesToOne (view m t x) start (block ∷ [])
      through x start e h = subst (λ y. ComesToOne (view m t y) start (block ∷ [])) (sym e) (record {
        place = 0;
        chosen = block;
        is = refl;
        path =
            back_comes (view m t var) went.steps block stop start way
            (subst (λ y. ComesTo (view m t var) start y) (one_item stop h.chosen h.place h.is).0 (subst (λ y. ComesTo (view m t y) start h.chosen) e h.path));
      })

  pub stand_read : IsRead (view m t var) (modes var) block v
  unfolding way kept_l moves_l
  stand_read = record {
    given = record {
      gives = back_gives (view m t var) went.steps block stop v way standing.found_there;
      there = standing.there;
      alike = standing.alike;
    };
    of_nearest = λ nearest h.
        subst (λ b. IsFound (view m t var) b v)
        (sym (one_nearest (view m t var) went.steps h.steps block stop nearest way ends h.way h.ends)) standing.found_there;
  }
    where
      ends : CanPass (view m t var) stop → ⊥
      ends can = went.ends short (record {
        sealed = ap (λ x. sealed_in x.sealed stop) (sym rest) ∙ sym (advances.calls.sealed stop) ∙ can.sealed;
        unwritten = ap (λ x. last_write x.writes var stop) (sym rest) ∙ ap (λ ws. last_write ws var stop) (sym advances.calls.writes) ∙ can.unwritten;
        before = can.before;
        preds = sym (moves_l.same_blocks.preds stop) ∙ can.preds;
      })

  pub stand_open : AreOpen m t var (length k.made)
  stand_open = subst (λ n. AreOpen m t var n) (ap (λ x. length x.made) rest) pending

-- a way back that is too long
module _ {V : Type 0} (modes : ℕ → Mode) (k : Known V) (s : Shape V) (kept : IsKept modes k s) (var block stop : ℕ) (trail : List ℕ)
    (went : WentBack (view k s var) (length k.sealed) block trail stop) (long : length k.sealed < length trail) where
  pub far_back : (n : ℕ) → Far (view k s var) n block
  far_back n =
      endless_where_long (view k s var) (length k.sealed) went.steps block stop (λ b is. sealed_below k.sealed b is) went.way (omega (arith, long, went.long)) n

  pub long_endless : (n : ℕ) → Chain (view k s var) n block
  long_endless n = far_chain (view k s var) n block (far_back (suc n))

module _ {V : Type 0} (modes : ℕ → Mode) (k m : Known V) (s t : Shape V) (kept : IsKept modes k s) (var block stop : ℕ) (v : V) (trail : List ℕ)
    (went : WentBack (view k s var) (length k.sealed) block trail stop) (long : length k.sealed < length trail)
    (advances : Advances modes var k m s t) (makes : Makes (λ x. x ≡ var) [] k m s t) (is_lost : found m.lost var block ≡ Some v) where
  moves_m : Moves k m s t
  moves_m = makes_moves (λ x. x ≡ var) [] k m s t advances.calls.writes (λ b is. advances.calls.sealed b ∙ is) makes

  far_after : (n : ℕ) → Far (view m t var) n block
  unfolding moves_m
  far_after n =
      endless_where_long (view m t var) (length k.sealed) went.steps block stop
      (λ b is. sealed_below k.sealed b (sym (advances.calls.sealed b) ∙ is))
      (back_moves modes k m s t kept moves_m var went.steps block stop went.way) (omega (arith, long, went.long)) n

  unwritten_at : Far (view m t var) 1 block → last_write m.writes var block ≡ None
  unwritten_at (far q sealed unwritten preds more) = unwritten

  pub lose_read : IsRead (view m t var) (modes var) block v
  unfolding far_after
  lose_read =
      let h = advances.kept.lost var block v is_lost in
      record {
        given = record {
          gives = endless (unwritten_at (far_after 1)) is_lost h.kind_is h.endless;
          there = h.there;
          alike = h.alike;
        };
        of_nearest = λ nearest n. absurd (no_nearest (view m t var) n.steps block nearest n.way n.ends (far_after (suc n.steps)));
      }

  pub lose_through : (ends : List ℕ) → Makes (λ x. x ≡ var) ends k m s t
  lose_through ends =
      makes_through (λ x. x ≡ var) (λ x. x ≡ var) [] ends k m s t (λ x e. e)
      (λ x start e h. absurd (none_is_not_some h.chosen h.is)) makes

-- ---- the operands

module _ {V : Type 0} (modes : ℕ → Mode) (k l m : Known V) (s t u : Shape V) (kept : IsKept modes k s) (var block pred : ℕ) (v : V) (operands : List V)
    (advances : Advances modes var k l s t) (makes : Makes (λ x. x ≡ var) (s.preds block) k l s t) (adds : Adds s t) (pending : AreOpen l t var (length k.made))
    (given : AreGiven (view l t var) (modes var) block operands)
    (at : slice_get (s.preds block) (length operands) ≡ Some pred)
    (advances' : Advances modes var l m t u) (makes' : Makes (λ x. x ≡ var) (pred ∷ []) l m t u) (adds' : Adds t u) (read : IsRead (view m u var) (modes var) pred v)
    (pending' : AreOpen m u var (length l.made)) where
  moves_next : Moves l m t u
  moves_next = makes_moves (λ x. x ≡ var) (pred ∷ []) l m t u advances'.calls.writes (λ b is. advances'.calls.sealed b ∙ is) makes'

  pub gather_advances : Advances modes var k m s u
  gather_advances = record {
    kept = advances'.kept;
    calls = calls_trans k l m advances.calls advances'.calls;
    room =
        let a = ap (λ n. free_places m.made var n + length m.made) adds.same_blocks.blocks in
        let b = ap (λ n. free_places l.made var n + length l.made) adds.same_blocks.blocks in
        sym a ∙ advances'.room ∙ b ∙ advances.room;
  }

  pub gather_makes : Makes (λ x. x ≡ var) (s.preds block) k m s u
  gather_makes =
      makes_trans (λ x. x ≡ var) (s.preds block) modes k l m s t u advances.kept advances'.calls makes
      (makes_through (λ x. x ≡ var) (λ x. x ≡ var) (pred ∷ []) (s.preds block) l m t u (λ x e. e) through makes')
    where
      through : (x start : ℕ) → x ≡ var → ComesToOne (view m u x) start (pred ∷ []) → ComesToOne (view m u x) start (s.preds block)
      through x start e h = record {
        place = length operands;
        chosen = pred;
        is = at;
        path = subst (λ y. ComesTo (view m u x) start y) (one_item pred h.chosen h.place h.is).0 h.path;
      }

  pub gather_adds : Adds s u
  gather_adds = adds_trans s t u adds adds'

  pub gather_given : (more : List V) → more ≡ operands ++ v ∷ [] → AreGiven (view m u var) (modes var) block more
  unfolding moves_next
  gather_given more is place x there = by (get_pushed operands v x place (ap (λ xs. slice_get xs place) (sym is) ∙ there))
    where
      by : (slice_get operands place ≡ Some x) ⊎ ((x ≡ v) × (place ≡ length operands)) → GivenFor (view m u var) (modes var) block place x
      by (inl h) =
          let g = given place x h in
          record {
            pred = g.pred;
            at = ap (λ qs. slice_get qs place) (moves_next.same_blocks.preds block) ∙ g.at;
            given = given_moves modes l m t u advances.kept moves_next var (modes var) g.pred x g.given;
          }
      by (inr e) = record {
        pred = pred;
        at = ap (λ qs. slice_get qs place) (moves_next.same_blocks.preds block ∙ adds.same_blocks.preds block) ∙ ap (λ n. slice_get (s.preds block) n) e.1 ∙ at;
        given = subst (λ y. IsGiven (view m u var) (modes var) pred y) (sym e.0) read.given;
      }

  -- what was open before is open
  pub gather_open : AreOpen m u var (length k.made)
  gather_open = record {
    for_var = λ i home p past is. var_by i home p past (either i home p is);
    are_open = λ i home p past is. open_by i home p past (either i home p is);
  }
    where
      either : (i : ℕ) (home : Place) (p : V) → slice_get m.made i ≡ Some (home, p) → (slice_get l.made i ≡ Some (home, p)) ⊎ (length l.made ≤ i) × (slice_get m.made i ≡ Some (home, p))
      either i home p is = by (get_either l.made makes'.more i (home, p) (ap (λ es. slice_get es i) (sym makes'.made) ∙ is))
        where
          by : (slice_get l.made i ≡ Some (home, p)) ⊎ InSecond l.made makes'.more i (home, p) → (slice_get l.made i ≡ Some (home, p)) ⊎ (length l.made ≤ i) × (slice_get m.made i ≡ Some (home, p))
          by (inl h) = inl h
          by (inr h) = inr (h.past, is)

      var_by : (i : ℕ) (home : Place) (p : V) → length k.made ≤ i → (slice_get l.made i ≡ Some (home, p)) ⊎ (length l.made ≤ i) × (slice_get m.made i ≡ Some (home, p)) → home.var ≡ var
      var_by i home p past (inl h) = pending.for_var i home p past h
      var_by i home p past (inr h) = pending'.for_var i home p h.0 h.1

      open_by : (i : ℕ) (home : Place) (p : V) → length k.made ≤ i → (slice_get l.made i ≡ Some (home, p)) ⊎ (length l.made ≤ i) × (slice_get m.made i ≡ Some (home, p)) → IsOpen u home.block p
      open_by i home p past (inl h) = stays (pending.are_open i home p past h)
        where
          same : SameValue t u p
          same = adds'.keeps p (advances.kept.made i home p h).can_give.once

          stays : IsOpen t home.block p → IsOpen u home.block p
          stays (inl e) = inl (same.kind ∙ e)
          stays (inr e) = inr (adds'.same_blocks.preds home.block ∙ e)
      open_by i home p past (inr h) = pending'.are_open i home p h.0 h.1

-- ---- the trail is noted block by block

pub noted_none : (ps : List (Place × ℕ)) (var : ℕ) (xs : List ℕ) (stop : ℕ) → IsTrailNoted ps ps var xs stop
noted_none ps var xs stop x b n is = inl is

pub noted_more : (old new newer : List (Place × ℕ)) (var : ℕ) (xs ys : List ℕ) (b stop : ℕ) → IsTrailNoted old new var xs stop → Puts new newer var b stop → ys ≡ xs ++ b ∷ []
    → IsTrailNoted old newer var ys stop
noted_more old new newer var xs ys b stop noted puts more x c n is = by (cases_eq x var) (cases_eq c b)
  where
    wider : (found old x c ≡ Some n) ⊎ IsOnTrail var xs stop x c n → (found old x c ≡ Some n) ⊎ IsOnTrail var ys stop x c n
    wider (inl h) = inl h
    wider (inr h) = inr (record {
      of_var = h.of_var;
      index = h.index;
      is = ap (λ zs. slice_get zs h.index) more ∙ get_front xs (b ∷ []) h.index c h.is;
      to_stop = h.to_stop;
    })

    by : (x ≡ var) ⊎ (x ≡ var → ⊥) → (c ≡ b) ⊎ (c ≡ b → ⊥) → (found old x c ≡ Some n) ⊎ IsOnTrail var ys stop x c n
    by (inl e) (inl f) = inr (record {
      of_var = e;
      index = length xs;
      is = ap (λ zs. slice_get zs (length xs)) more ∙ get_last xs b ∙ ap Some (sym f);
      to_stop = some_same n stop (sym is ∙ ap (λ y. found newer y c) e ∙ ap (λ y. found newer var y) f ∙ puts.here);
    })
    by (inl e) (inr d) = wider (noted x c n (sym (puts.others x c (λ g f. d f)) ∙ is))
    by (inr d) f = wider (noted x c n (sym (puts.others x c (λ e g. d e)) ∙ is))

pub none_given : {V : Type 0} (k : View V) (mode : Mode) (b : ℕ) (operands : List V) → operands ≡ [] → AreGiven k mode b operands
none_given k mode b operands none place v at = absurd (none_is_not_some v (sym (ap (λ xs. slice_get xs place) none) ∙ at))
