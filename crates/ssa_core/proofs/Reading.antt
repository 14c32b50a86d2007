-- Between calls: what holds after `read` and `write`.
use Rattle.std.proofs.Common.{◌≡◌, ℕ, zero, suc, ◌<◌, ◌≤◌, ◌⊎◌, inl, inr, Bool, true, false, List, [], ◌∷◌, ◌++◌, length, take, Some, refl, sym, ap, ◌∙◌, subst, arith}
use Rattle.std.proofs.lemmas.Bool.{cases_lt}
use Rattle.std.proofs.lemmas.List.{take_all}
use Rattle.std.specs.List.{slice_get}
use Rattle.ssa_core.specs.declared.places.Place.{Place}
use Rattle.ssa_core.specs.declared.notes.Read.{Read}
use Rattle.ssa_core.specs.Shapes.{Shape, Mode, IsThere}
use Rattle.ssa_core.specs.Gives.{Gives}
use Rattle.ssa_core.specs.Known.{Known, last_write, sealed_in, view}
use Rattle.ssa_core.specs.Back.{Back, stay, back, IsFound, was_written, was_made, IsGiven, IsRead}
use Rattle.ssa_core.specs.Building.{IsKept, IsDone, WasRead, IsNoted, by_made, by_passed, by_lost, ReadWell, IsSettled, IsReady, IsNeeded, unsealed, joins, starts, IsNew, IsFresh, not_there, is_unknown, is_made, Makes, SameCalls}
use Rattle.ssa_core.specs.Steps.{Advances, AreReached, Settles}
use Rattle.ssa_core.proofs.Among.{get_front, get_last, get_either, InSecond, one_item, written_at, none_is_not_some}
use Rattle.ssa_core.proofs.Keeps.{Extends, gives_extends}
use Rattle.ssa_core.proofs.Moves.{Moves, moves_extends, can_give_moves, given_moves}
use Rattle.ssa_core.proofs.Making.{makes_moves, makes_trans, calls_trans}
use Rattle.ssa_core.proofs.Settling.{reached_new, done_stays}

-- ---- the flag and the list of reads are seen by little

module _ {V : Type 0} (modes : ℕ → Mode) (s : Shape V) where
  pub kept_again : (k l : Known V) → IsKept modes k s → l ≡ record k { reads = l.reads; spent = l.spent } → IsKept modes l s
  kept_again k l h same = subst (λ x. IsKept modes x s) (sym same) (record {
    written = h.written;
    made = h.made;
    once = h.once;
    apart = h.apart;
    passed = h.passed;
    lost = h.lost;
    sealed = h.sealed;
  })

  noted_again : (k : Known V) (rs : List (Read V)) (b : Bool) (x : ℕ) → IsNoted (record k { reads = rs; spent = b }) x → IsNoted k x
  noted_again k rs b x (by_made c p is) = by_made c p is
  noted_again k rs b x (by_passed c n is) = by_passed c n is
  noted_again k rs b x (by_lost c v is) = by_lost c v is

  read_again : (k : Known V) (rs : List (Read V)) (b : Bool) (r : Read V) → ReadWell modes k s r → ReadWell modes (record k { reads = rs; spent = b }) s r
  read_again k rs b r h = record { can_give = h.can_give; gives = h.gives }

  pub settled_spent : (k : Known V) (b : Bool) → IsSettled modes k s → IsSettled modes (record k { spent = b }) s
  settled_spent k b h = record {
    kept = kept_again k (record k { spent = b }) h.kept refl;
    done = h.done;
    reads = λ i r at. read_again k k.reads b r (h.reads i r at);
    counts = h.counts;
    asked = λ x n. let w = h.asked x (noted_again k k.reads b x n) in record { index = w.index; read = w.read; is = w.is; of_var = w.of_var };
  }

  pub settled_at : (k l : Known V) → l ≡ record k { spent = l.spent } → IsSettled modes k s → IsSettled modes l s
  settled_at k l same h = subst (λ x. IsSettled modes x s) (sym same) (settled_spent k l.spent h)

-- what a call makes is seen without them
module _ {V : Type 0} (asked : ℕ → Type 0) (ends : List ℕ) where
  pub makes_again : (k m : Known V) (s u : Shape V) (b c : Bool) (rs : List (Read V)) → Makes asked ends (record k { spent = b }) m s u
      → Makes asked ends k (record m { reads = rs; spent = c }) s u
  makes_again k m s u b c rs h = record {
    more = h.more;
    made = h.made;
    new = λ i home p at. new i home p (h.new i home p at);
    grows = h.grows;
    fresh = λ v e. fresh v (h.fresh v e);
    lost = h.lost;
    notes = λ x n. notes x (h.notes x (before x n));
  }
    where
      needed : (home : Place) (p : V) → IsNeeded m s u home.block p → IsNeeded (record m { reads = rs; spent = c }) s u home.block p
      needed home p (unsealed is new) = unsealed is new
      needed home p (joins one two rest is new) = joins one two rest is new
      needed home p (starts is none kind) = starts is none kind

      new : (i : ℕ) (home : Place) (p : V) → IsNew asked ends m s u home p → IsNew asked ends (record m { reads = rs; spent = c }) s u home p
      new i home p n = record { for_var = n.for_var; path = n.path; needed = needed home p n.needed }

      fresh : (v : V) → IsFresh m u v → IsFresh (record m { reads = rs; spent = c }) u v
      fresh v (not_there e) = not_there e
      fresh v (is_unknown e) = is_unknown e
      fresh v (is_made a) = is_made a

      before : (x : ℕ) → IsNoted (record m { reads = rs; spent = c }) x → IsNoted m x
      before x (by_made d p is) = by_made d p is
      before x (by_passed d n is) = by_passed d n is
      before x (by_lost d v is) = by_lost d v is

      notes : (x : ℕ) → IsNoted (record k { spent = b }) x ⊎ asked x → IsNoted k x ⊎ asked x
      notes x (inl (by_made d p is)) = inl (by_made d p is)
      notes x (inl (by_passed d n is)) = inl (by_passed d n is)
      notes x (inl (by_lost d v is)) = inl (by_lost d v is)
      notes x (inr a) = inr a

-- ---- after a part of a call that settles all

pub among_taken : {X : Type 0} (ws : List X) (n i : ℕ) (w : X) → slice_get (take n ws) i ≡ Some w → slice_get ws i ≡ Some w
among_taken [] zero i w is = is
among_taken [] (suc n) i w is = is
among_taken (x ∷ ws) zero i w is = absurd (none_is_not_some w is)
among_taken (x ∷ ws) (suc n) zero w is = is
among_taken (x ∷ ws) (suc n) (suc i) w is = among_taken ws n i w is

module _ {V : Type 0} (modes : ℕ → Mode) (asked : ℕ → Type 0) (ends : List ℕ) (k m : Known V) (s u : Shape V) (settled : IsSettled modes k s) (kept : IsKept modes m u)
    (writes : m.writes ≡ k.writes) (reads : m.reads ≡ k.reads) (sealed : (b : ℕ) → sealed_in k.sealed b ≡ true → sealed_in m.sealed b ≡ true)
    (makes : Makes asked ends k m s u) (done : (index : ℕ) → IsDone m u index) (rs : List (Read V)) where
  abbrev pub after : Known V
  after = record m { reads = m.reads ++ rs }

  moves : Moves k m s u
  moves = makes_moves asked ends k m s u writes sealed makes

  old_read : (i : ℕ) (r : Read V) → slice_get k.reads i ≡ Some r → ReadWell modes m u r
  unfolding moves
  old_read i r at =
      let h = settled.reads i r at in
      record {
        can_give = can_give_moves modes k m s u settled.kept moves (modes r.var) r.value h.can_give;
        gives =
            subst (λ ws. Gives (view m u r.var) (last_write (take r.writes ws) r.var r.block) r.block (u.current r.value)) (sym writes)
            (subst (λ v. Gives (view m u r.var) (last_write (take r.writes k.writes) r.var r.block) r.block v) (sym (moves.places r.value h.can_give.once).current)
            (gives_extends (view k s r.var) (view m u r.var) (moves_extends modes k m s u settled.kept moves r.var) (last_write (take r.writes k.writes) r.var r.block) r.block
            (s.current r.value) own h.gives));
      }
    where
      own : (v : V) → last_write (take r.writes k.writes) r.var r.block ≡ Some v → u.current v ≡ s.current v
      own v is =
          let at = written_at (take r.writes k.writes) r.var r.block v is in
          let c = settled.kept.written at.index at.write (among_taken k.writes r.writes at.index at.write at.is) in
          (moves.places v (λ e. c.once (ap s.kind at.value ∙ e))).current

  pub settled_after : ((i : ℕ) (r : Read V) → slice_get rs i ≡ Some r → ReadWell modes m u r × (r.writes ≤ length m.writes))
      → ((x : ℕ) → asked x → WasRead after x) → IsSettled modes after u
  unfolding old_read
  settled_after new was = record {
    kept = record {
      written = kept.written;
      made = kept.made;
      once = kept.once;
      apart = kept.apart;
      passed = kept.passed;
      lost = kept.lost;
      sealed = kept.sealed;
    };
    done = done;
    reads = λ i r at. read i r (get_either m.reads rs i r at);
    counts = λ i r at. count i r (get_either m.reads rs i r at);
    asked = λ x n. was_read x (makes.notes x (before x n));
  }
    where
      old : (i : ℕ) (r : Read V) → slice_get m.reads i ≡ Some r → slice_get k.reads i ≡ Some r
      old i r at = ap (λ xs. slice_get xs i) (sym reads) ∙ at

      again : (r : Read V) → ReadWell modes m u r → ReadWell modes (record m { reads = m.reads ++ rs }) u r
      again r h = record { can_give = h.can_give; gives = h.gives }

      read : (i : ℕ) (r : Read V) → (slice_get m.reads i ≡ Some r) ⊎ InSecond m.reads rs i r → ReadWell modes (record m { reads = m.reads ++ rs }) u r
      read i r (inl at) = again r (old_read i r (old i r at))
      read i r (inr h) = again r (new h.index r h.is).0

      count : (i : ℕ) (r : Read V) → (slice_get m.reads i ≡ Some r) ⊎ InSecond m.reads rs i r → r.writes ≤ length m.writes
      count i r (inl at) = omega (arith, settled.counts i r (old i r at), ap (λ ws. length ws) writes)
      count i r (inr h) = (new h.index r h.is).1

      before : (x : ℕ) → IsNoted (record m { reads = m.reads ++ rs }) x → IsNoted m x
      before x (by_made d p is) = by_made d p is
      before x (by_passed d n is) = by_passed d n is
      before x (by_lost d v is) = by_lost d v is

      was_read : (x : ℕ) → IsNoted k x ⊎ asked x → WasRead (record m { reads = m.reads ++ rs }) x
      was_read x (inl n) =
          let w = settled.asked x n in
          record { index = w.index; read = w.read; is = get_front m.reads rs w.index w.read (ap (λ xs. slice_get xs w.index) reads ∙ w.is); of_var = w.of_var }
      was_read x (inr a) = was x a

-- what was found stays what was found
module _ {V : Type 0} (modes : ℕ → Mode) (var block : ℕ) (l m : Known V) (t u : Shape V) (v : V) (kept : IsKept modes l t) (moves : Moves l m t u)
    (sealed_same : (b : ℕ) → sealed_in m.sealed b ≡ sealed_in l.sealed b) (read : IsRead (view l t var) (modes var) block v) where
  back_before : (n b stop : ℕ) → Back (view m u var) n b stop → Back (view l t var) n b stop
  back_before zero b stop stay = stay
  back_before (suc n) b stop (back q sealed none preds way) =
      back q (sym (sealed_same b) ∙ sealed) (ap (λ ws. last_write ws var b) (sym moves.writes) ∙ none) (sym (moves.same_blocks.preds b) ∙ preds) (back_before n q stop way)

  pub read_stays : IsRead (view m u var) (modes var) block v
  read_stays = record {
    given = given_moves modes l m t u kept moves var (modes var) block v read.given;
    of_nearest = λ nearest h. stays nearest (read.of_nearest nearest (record {
      steps = h.steps;
      way = back_before h.steps block nearest h.way;
      ends = λ can. h.ends (record {
        sealed = sealed_same nearest ∙ can.sealed;
        unwritten = ap (λ ws. last_write ws var nearest) moves.writes ∙ can.unwritten;
        before = can.before;
        preds = moves.same_blocks.preds nearest ∙ can.preds;
      });
    }));
  }
    where
      extends : Extends (view l t var) (view m u var)
      extends = moves_extends modes l m t u kept moves var

      stays : (nearest : ℕ) → IsFound (view l t var) nearest v → IsFound (view m u var) nearest v
      stays nearest (was_written w is same) = was_written w (extends.wrote nearest ∙ is) (same ∙ sym (extends.wrote_stays nearest w is))
      stays nearest (was_made p none is same) = was_made p (extends.wrote nearest ∙ none) (extends.made nearest p is) (same ∙ sym (extends.made_stays nearest p is))

-- ---- `read`

module _ {V : Type 0} (modes : ℕ → Mode) (k l m : Known V) (s t u : Shape V) (settled : IsSettled modes k s) (var block : ℕ) (v : V)
    (advances : Advances modes var k l s t) (makes : Makes (λ x. x ≡ var) (block ∷ []) k l s t) (found_first : IsRead (view l t var) (modes var) block v)
    (advances' : Advances modes var l m t u) (makes' : (ends : List ℕ) → AreReached l t (length k.made) ends → Makes (λ x. x ≡ var) ends l m t u)
    (settles : Settles l m t u (length k.made)) where
  later_makes : Makes (λ x. x ≡ var) (block ∷ []) l m t u
  later_makes = makes' (block ∷ []) (reached_new (λ x. x ≡ var) (block ∷ []) k l s t makes)

  calls : SameCalls k m
  calls = calls_trans k l m advances.calls advances'.calls

  pub all_makes : Makes (λ x. x ≡ var) (block ∷ []) k m s u
  unfolding later_makes
  all_makes = makes_trans (λ x. x ≡ var) (block ∷ []) modes k l m s t u advances.kept advances'.calls makes later_makes

  pub read_value : IsRead (view m u var) (modes var) block v
  unfolding later_makes
  read_value =
      read_stays modes var block l m t u v advances.kept
      (makes_moves (λ x. x ≡ var) (block ∷ []) l m t u advances'.calls.writes (λ b is. advances'.calls.sealed b ∙ is) later_makes) advances'.calls.sealed found_first

  all_done : (i : ℕ) → IsDone m u i
  all_done i = by (cases_lt i (length k.made))
    where
      by : (i < length k.made) ⊎ (length k.made ≤ i) → IsDone m u i
      by (inl less) = settles.earlier i less (done_stays (λ x. x ≡ var) (block ∷ []) k l s t makes modes settled.kept advances.calls i less (settled.done i))
      by (inr le) = settles.later i le

  pub read_settled : IsSettled modes (record m { reads = m.reads ++ record { var = var; block = block; value = v; writes = length k.writes } ∷ [] }) u
  unfolding all_makes read_value all_done calls
  read_settled =
      settled_after modes (λ x. x ≡ var) (block ∷ []) k m s u settled advances'.kept calls.writes calls.reads (λ b is. calls.sealed b ∙ is) all_makes all_done
      (record { var = var; block = block; value = v; writes = length k.writes } ∷ []) new was
    where
      new : (i : ℕ) (r : Read V) → slice_get {X = Read V} (record { var = var; block = block; value = v; writes = length k.writes } ∷ []) i ≡ Some r
          → ReadWell modes m u r × (r.writes ≤ length m.writes)
      new i r at = subst (λ x. ReadWell modes m u x × (x.writes ≤ length m.writes)) (sym (one_item (record { var = var; block = block; value = v; writes = length k.writes }) r i at).0) (here, count)
        where
          g : IsGiven (view m u var) (modes var) block v
          g = read_value.given

          count : length k.writes ≤ length m.writes
          count = omega (arith, ap (λ ws. length ws) calls.writes)

          here : ReadWell modes m u (record { var = var; block = block; value = v; writes = length k.writes })
          here = record {
            can_give = record { once = g.there.once; there = subst (λ x. IsThere u x) (sym g.there.own) g.there; alike = ap u.mode g.there.own ∙ g.alike };
            gives =
                subst (λ ws. Gives (view m u var) (last_write ws var block) block (u.current v)) (sym (take_all (length k.writes) m.writes (omega (arith, ap (λ ws. length ws) calls.writes))))
                (subst (λ x. Gives (view m u var) (last_write m.writes var block) block x) (sym g.there.own) g.gives);
          }

      was : (x : ℕ) → x ≡ var → WasRead (record m { reads = m.reads ++ record { var = var; block = block; value = v; writes = length k.writes } ∷ [] }) x
      was x e = record {
        index = length m.reads;
        read = record { var = var; block = block; value = v; writes = length k.writes };
        is = get_last m.reads (record { var = var; block = block; value = v; writes = length k.writes });
        of_var = sym e;
      }

-- the list of reads has one more
abbrev pub with_read : {V : Type 0} → Known V → ℕ → ℕ → V → ℕ → Known V
with_read k var block v n = record k { reads = k.reads ++ record { var = var; block = block; value = v; writes = n } ∷ [] }

module _ {V : Type 0} (modes : ℕ → Mode) (k m new inside : Known V) (s u : Shape V) (var block : ℕ) (v : V) (n : ℕ)
    (is : new ≡ with_read inside var block v n) (same : inside ≡ m) (count : n ≡ length inside.writes) (writes : m.writes ≡ k.writes) where
  new_is : new ≡ with_read m var block v (length k.writes)
  new_is =
      is ∙ ap (λ x. with_read x var block v n) same
      ∙ ap (λ i. with_read m var block v i) (count ∙ ap (λ x. length x.writes) same ∙ ap (λ ws. length ws) writes)

  pub noted_settled : IsSettled modes (with_read m var block v (length k.writes)) u → IsSettled modes new u
  noted_settled h = subst (λ x. IsSettled modes x u) (sym new_is) h

  pub noted_value : IsRead (view m u var) (modes var) block v → IsRead (view new u var) (modes var) block v
  noted_value h = subst (λ x. IsRead (view x u var) (modes var) block v) (sym new_is) h

  pub noted_makes : (asked : ℕ → Type 0) (ends : List ℕ) → Makes asked ends k m s u → Makes asked ends k new s u
  noted_makes asked ends h =
      subst (λ x. Makes asked ends k x s u) (sym new_is)
      (makes_again asked ends k m s u k.spent m.spent (m.reads ++ record { var = var; block = block; value = v; writes = length k.writes } ∷ []) h)

  pub noted_reads : m.reads ≡ k.reads → new.reads ≡ k.reads ++ record { var = var; block = block; value = v; writes = length k.writes } ∷ []
  noted_reads reads = ap (λ x. x.reads) new_is ∙ ap (λ rs. rs ++ record { var = var; block = block; value = v; writes = length k.writes } ∷ []) reads

-- ---- the builder around it

module _ {V : Type 0} (modes : ℕ → Mode) (k w : Known V) (s : Shape V) (flag : Bool) (same : record w { spent = flag } ≡ k) where
  work_is : w ≡ record k { spent = w.spent }
  work_is = ap (λ (x : Known V). record x { spent = w.spent }) same

  pub work_settled : IsReady modes k s → flag ≡ false → IsSettled modes w s
  work_settled ready fresh = settled_at modes s k w work_is (ready (ap (λ x. x.spent) (sym same) ∙ fresh))

  pub work_makes : (asked : ℕ → Type 0) (ends : List ℕ) (m : Known V) (u : Shape V) → Makes asked ends w m s u → Makes asked ends k (record m { spent = false }) s u
  work_makes asked ends m u h =
      makes_again asked ends k m s u w.spent false m.reads (subst (λ x. Makes asked ends x m s u) work_is h)
