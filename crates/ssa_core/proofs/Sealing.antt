-- A block is sealed, and the Phis that wait in it are filled.
use Rattle.std.proofs.Common.{◌≡◌, ℕ, zero, suc, ◌+◌, ◌<◌, ◌≤◌, ◌==◌, ◌⊎◌, inl, inr, Bool, true, false, cond, List, [], ◌∷◌, ◌++◌, length, Some, refl, sym, ap, ◌∙◌, subst, arith}
use Rattle.std.proofs.lemmas.Bool.{cases_eq, cases_lt}
use Rattle.std.proofs.lemmas.Bool.Decides.{nat_tests}
use Rattle.std.proofs.lemmas.Option.{slice_get_within}
use Rattle.std.specs.List.{slice_get}
use Rattle.ssa_core.specs.declared.places.Place.{Place}
use Rattle.ssa_core.specs.Places.{found}
use Rattle.ssa_core.specs.Shapes.{Shape, Mode, phi}
use Rattle.ssa_core.specs.Gives.{Full}
use Rattle.ssa_core.specs.Known.{Known, sealed_in, view, indices_from, indices_in}
use Rattle.ssa_core.specs.Back.{ComesToOne}
use Rattle.ssa_core.specs.Building.{Stage, filled, waits, IsKept, IsDone, IsSettled, WasRead, IsNoted, by_made, by_passed, by_lost, IsWaiting, same_kind, Makes, SameCalls}
use Rattle.ssa_core.specs.Steps.{IsOpen, Settles}
use Rattle.ssa_core.proofs.Among.{append_none, none_is_not_some, some_same}
use Rattle.ssa_core.proofs.Moves.{Moves, moves_from, grows_by, full_moves, made_moves, stage_moves, kept_from}
use Rattle.ssa_core.proofs.Making.{adds_refl, makes_refl, makes_trans, makes_through, calls_refl, calls_trans}
use Rattle.ssa_core.proofs.Settling.{entry_stays}
use Rattle.ssa_core.proofs.Reading.{settled_after}

-- ---- the indices of what was made in a block

record EntryOf {V : Type 0} (made : List (Place × V)) (block next j : ℕ) : Type 0 where
  back : ℕ
  index_is : j ≡ next + back
  home : Place
  value : V
  is : slice_get made back ≡ Some (home, value)
  in_block : home.block ≡ block

module _ {V : Type 0} where
  entry_of : (next : ℕ) (made : List (Place × V)) (block n j : ℕ) → slice_get (indices_from next made block) n ≡ Some j → EntryOf made block next j
  unfolding indices_from
  entry_of next [] block n j at = absurd (none_is_not_some j at)
  entry_of next (e ∷ es) block n j at = by (block == e.0.block) refl n at (λ i h. entry_of (suc next) es block i j h)
    where
      later : EntryOf es block (suc next) j → EntryOf (e ∷ es) block next j
      later h = record { back = suc h.back; index_is = omega (arith, h.index_is); home = h.home; value = h.value; is = h.is; in_block = h.in_block }

      by : (t : Bool) → (block == e.0.block) ≡ t → (i : ℕ)
          → slice_get (cond (block == e.0.block) (next ∷ indices_from (suc next) es block) (indices_from (suc next) es block)) i ≡ Some j
          → ((i : ℕ) → slice_get (indices_from (suc next) es block) i ≡ Some j → EntryOf es block (suc next) j) → EntryOf (e ∷ es) block next j
      by false t i h more = later (more i (sym (ap (λ b. slice_get (cond b (next ∷ indices_from (suc next) es block) (indices_from (suc next) es block)) i) t) ∙ h))
      by true t zero h more =
          let same : next ≡ j = some_same next j (sym (ap (λ b. slice_get (cond b (next ∷ indices_from (suc next) es block) (indices_from (suc next) es block)) 0) t) ∙ h) in
          record { back = 0; index_is = omega (arith, same); home = e.0; value = e.1; is = refl; in_block = sym (grind (arith, nat_tests, t)) }
      by true t (suc i) h more =
          later (more i (sym (ap (λ b. slice_get (cond b (next ∷ indices_from (suc next) es block) (indices_from (suc next) es block)) (suc i)) t) ∙ h))

  record IsListedAt (made : List (Place × V)) (block next j : ℕ) : Type 0 where
    at : ℕ
    is : slice_get (indices_from next made block) at ≡ Some j

  listed_at : (next : ℕ) (made : List (Place × V)) (block d : ℕ) (home : Place) (p : V) → slice_get made d ≡ Some (home, p) → home.block ≡ block → IsListedAt made block next (next + d)
  unfolding indices_from
  listed_at next [] block d home p at same = absurd (none_is_not_some (home, p) at)
  listed_at next (e ∷ es) block zero home p at same = record {
    at = 0;
    is =
        let here : (block == e.0.block) ≡ true = grind (arith, nat_tests, same, ap (λ (x : Place × V). x.0.block) (some_same e (home, p) at)) in
        ap (λ b. slice_get (cond b (next ∷ indices_from (suc next) es block) (indices_from (suc next) es block)) 0) here ∙ ap (λ n. Some n) (plus_zero next);
  }
    where
      plus_zero : (n : ℕ) → n ≡ n + 0
      plus_zero n = omega arith
  listed_at next (e ∷ es) block (suc d) home p at same = by (block == e.0.block) refl (listed_at (suc next) es block d home p at same)
    where
      shift : suc next + d ≡ next + suc d
      shift = omega arith

      by : (t : Bool) → (block == e.0.block) ≡ t → IsListedAt es block (suc next) (suc next + d) → IsListedAt (e ∷ es) block next (next + suc d)
      by false t h = record {
        at = h.at;
        is = ap (λ b. slice_get (cond b (next ∷ indices_from (suc next) es block) (indices_from (suc next) es block)) h.at) t ∙ h.is ∙ ap (λ n. Some n) shift;
      }
      by true t h = record {
        at = suc h.at;
        is = ap (λ b. slice_get (cond b (next ∷ indices_from (suc next) es block) (indices_from (suc next) es block)) (suc h.at)) t ∙ h.is ∙ ap (λ n. Some n) shift;
      }

  increases : (next : ℕ) (made : List (Place × V)) (block i n j later : ℕ) → i < n → slice_get (indices_from next made block) i ≡ Some j
      → slice_get (indices_from next made block) n ≡ Some later → j < later
  unfolding indices_from
  increases next [] block i n j later less at to = absurd (none_is_not_some j at)
  increases next (e ∷ es) block i n j later less at to = by (block == e.0.block) refl i n less at to (λ i n less at to. increases (suc next) es block i n j later less at to)
    where
      by : (t : Bool) → (block == e.0.block) ≡ t → (i n : ℕ) → i < n
          → slice_get (cond (block == e.0.block) (next ∷ indices_from (suc next) es block) (indices_from (suc next) es block)) i ≡ Some j
          → slice_get (cond (block == e.0.block) (next ∷ indices_from (suc next) es block) (indices_from (suc next) es block)) n ≡ Some later
          → ((i n : ℕ) → i < n → slice_get (indices_from (suc next) es block) i ≡ Some j → slice_get (indices_from (suc next) es block) n ≡ Some later → j < later)
          → j < later
      by false t i n less at to more =
          more i n less (sym (ap (λ b. slice_get (cond b (next ∷ indices_from (suc next) es block) (indices_from (suc next) es block)) i) t) ∙ at)
          (sym (ap (λ b. slice_get (cond b (next ∷ indices_from (suc next) es block) (indices_from (suc next) es block)) n) t) ∙ to)
      by true t i zero less at to more = absurd (omega (arith, less))
      by true t zero (suc n) less at to more =
          let first : next ≡ j = some_same next j (sym (ap (λ b. slice_get (cond b (next ∷ indices_from (suc next) es block) (indices_from (suc next) es block)) 0) t) ∙ at) in
          let h = entry_of (suc next) es block n later
          (sym (ap (λ b. slice_get (cond b (next ∷ indices_from (suc next) es block) (indices_from (suc next) es block)) (suc n)) t) ∙ to) in
          omega (arith, first, h.index_is)
      by true t (suc i) (suc n) less at to more =
          more i n (omega (arith, less)) (sym (ap (λ b. slice_get (cond b (next ∷ indices_from (suc next) es block) (indices_from (suc next) es block)) (suc i)) t) ∙ at)
          (sym (ap (λ b. slice_get (cond b (next ∷ indices_from (suc next) es block) (indices_from (suc next) es block)) (suc n)) t) ∙ to)

-- ---- the block is sealed

-- a Phi that is still to be filled
pub record Waits {V : Type 0} (k : Known V) (t : Shape V) (block j : ℕ) : Type 0 where
  pub home : Place
  pub value : V
  pub is : slice_get k.made j ≡ Some (home, value)
  pub in_block : home.block ≡ block
  pub empty : t.kind value ≡ phi []

pub record Sealing {V : Type 0} (modes : ℕ → Mode) (k first l : Known V) (s t : Shape V) (block : ℕ) (waiting : List ℕ) (i : ℕ) : Type 0 where
  pub kept : IsKept modes l t
  pub calls : SameCalls first l
  pub makes : Makes (IsWaiting k block) (s.preds block) first l s t
  pub done : (j : ℕ) → ((n : ℕ) → i ≤ n → slice_get waiting n ≡ Some j → ⊥) → IsDone l t j
  pub waits_still : (n j : ℕ) → i ≤ n → slice_get waiting n ≡ Some j → Waits k t block j

module _ {V : Type 0} (modes : ℕ → Mode) (k l : Known V) (s : Shape V) (settled : IsSettled modes k s) (block : ℕ) (within : block < s.blocks) (open_yet : sealed_in k.sealed block ≡ false)
    (rest : l ≡ record k { sealed = l.sealed }) (sealed : sealed_in l.sealed block ≡ true) (others : (b : ℕ) → (b ≡ block → ⊥) → sealed_in l.sealed b ≡ sealed_in k.sealed b) where
  same_made : l.made ≡ k.made
  same_made = ap (λ x. x.made) rest

  pub stays_sealed : (b : ℕ) → sealed_in k.sealed b ≡ true → sealed_in l.sealed b ≡ true
  stays_sealed b is = by (cases_eq b block)
    where
      by : (b ≡ block) ⊎ (b ≡ block → ⊥) → sealed_in l.sealed b ≡ true
      by (inl e) = ap (λ x. sealed_in l.sealed x) e ∙ sealed
      by (inr d) = others b d ∙ is

  moves : Moves k l s s
  moves =
      moves_from k l s s (λ x b p is. ap (λ y. found y.made x b) rest ∙ is) (λ x b v is. ap (λ y. found y.lost x b) rest ∙ is) (ap (λ x. x.writes) rest) stays_sealed []
      (grows_by [] s s (adds_refl s))

  before : (i : ℕ) (home : Place) (p : V) → slice_get l.made i ≡ Some (home, p) → slice_get k.made i ≡ Some (home, p)
  before i home p at = ap (λ es. slice_get es i) (sym same_made) ∙ at

  pub sealed_kept : IsKept modes l s
  unfolding moves before same_made
  sealed_kept =
      kept_from modes k l s s settled.kept moves
      (λ i home p at.
      let h = settled.kept.made i home p (before i home p at) in
      made_moves modes k l s s settled.kept moves home.var (modes home.var) home.block p h
      (stage_moves modes k l s s settled.kept moves home.var home.block p (settled.kept.once i home p (before i home p at)) refl h.stage))
      (λ i home p at. moves.made home.var home.block p (settled.kept.once i home p (before i home p at)))
      (λ i j x y p operands ati atj is. settled.kept.apart i j x y p operands (before i x p ati) (before j y p atj) is)
      (λ x b stop is. inl (ap (λ y. found y.passed x b) (sym rest) ∙ is))
      (λ x b v is. inl (ap (λ y. found y.lost x b) (sym rest) ∙ is))
      (λ b is. by b is (cases_eq b block))
    where
      by : (b : ℕ) → sealed_in l.sealed b ≡ true → (b ≡ block) ⊎ (b ≡ block → ⊥) → b < s.blocks
      by b is (inl e) = subst (λ x. x < s.blocks) (sym e) within
      by b is (inr d) = settled.kept.sealed b (sym (others b d) ∙ is)

  pub sealing_start : (waiting : List ℕ) → waiting ≡ indices_in k.made block → Sealing modes k l l s s block waiting 0
  unfolding moves before same_made
  sealing_start waiting is = record {
    kept = sealed_kept;
    calls = calls_refl l;
    makes = makes_refl (IsWaiting k block) (s.preds block) l s;
    done = λ j out home p at flag. done j out home p at flag (cases_eq home.block block);
    waits_still = λ n j past at. still n j (entry_of 0 k.made block n j (ap (λ xs. slice_get xs n) (sym is) ∙ at));
  }
    where
      done : (j : ℕ) → ((n : ℕ) → 0 ≤ n → slice_get waiting n ≡ Some j → ⊥) → (home : Place) (p : V) → slice_get l.made j ≡ Some (home, p) → sealed_in l.sealed home.block ≡ true
          → (home.block ≡ block) ⊎ (home.block ≡ block → ⊥) → Full (view l s home.var) home.block p
      done j out home p at flag (inl e) =
          let h = listed_at 0 k.made block j home p (before j home p at) e in
          absurd (out h.at (omega arith) (ap (λ xs. slice_get xs h.at) is ∙ h.is ∙ ap (λ n. Some n) (plain j)))
        where
          plain : (n : ℕ) → 0 + n ≡ n
          plain n = omega arith
      done j out home p at flag (inr d) =
          let was = before j home p at in
          let h = settled.kept.made j home p was in
          full_moves modes k l s s settled.kept moves home.var home.block p (settled.kept.once j home p was) h.home [] (same_kind refl)
          (settled.done j home p was (sym (others home.block d) ∙ flag))

      still : (n j : ℕ) → EntryOf k.made block 0 j → Waits k s block j
      still n j h = record {
        home = h.home;
        value = h.value;
        is = at;
        in_block = h.in_block;
        empty = by (settled.kept.made j h.home h.value at).stage;
      }
        where
          at : slice_get k.made j ≡ Some (h.home, h.value)
          at = ap (λ m. slice_get k.made m) (h.index_is ∙ plain h.back) ∙ h.is
            where
              plain : (m : ℕ) → 0 + m ≡ m
              plain m = omega arith

          by : Stage (view k s h.home.var) h.home.block h.value → s.kind h.value ≡ phi []
          by (filled flag full) = absurd (grind (arith, sym flag ∙ ap (λ b. sealed_in k.sealed b) h.in_block ∙ open_yet))
          by (waits empty own) = empty

-- ---- one waiting Phi after the other

module _ {V : Type 0} (modes : ℕ → Mode) (k first l m : Known V) (s t u : Shape V) (block : ℕ) (waiting : List ℕ) (listed : waiting ≡ indices_in k.made block) (i j : ℕ)
    (kept_k : IsKept modes k s) (same_made : first.made ≡ k.made)
    (r : Sealing modes k first l s t block waiting i) (at : slice_get waiting i ≡ Some j) where
  w : Waits k t block j
  w = r.waits_still i j (omega arith) at

  at_l : slice_get l.made j ≡ Some (w.home, w.value)
  at_l =
      entry_stays (IsWaiting k block) (s.preds block) first l s t r.makes j w.home w.value
      (ap (λ es. slice_get es j) same_made ∙ w.is)

  pub waiting_open : (home : Place) (p : V) → slice_get l.made j ≡ Some (home, p) → IsOpen t home.block p
  unfolding w at_l
  waiting_open home p is = inl (subst (λ q. t.kind q ≡ phi []) (ap (λ (x : Place × V). x.1) (some_same (w.home, w.value) (home, p) (sym at_l ∙ is))) w.empty)

  pub sealing_next : IsKept modes m u → SameCalls l m
      → ((home : Place) (p : V) → slice_get l.made j ≡ Some (home, p) → Makes (λ x. x ≡ home.var) (t.preds home.block) l m t u)
      → IsDone m u j
      → ((other : ℕ) (home : Place) (p : V) → (other ≡ j → ⊥) → slice_get l.made other ≡ Some (home, p) → t.kind p ≡ phi [] → u.kind p ≡ phi [])
      → Settles l m t u (length l.made) → Sealing modes k first m s u block waiting (i + 1)
  unfolding w at_l
  sealing_next kept calls makes here stays settles = record {
    kept = kept;
    calls = calls_trans first l m r.calls calls;
    makes =
        makes_trans (IsWaiting k block) (s.preds block) modes first l m s t u r.kept calls r.makes
        (makes_through (λ x. x ≡ w.home.var) (IsWaiting k block) (t.preds w.home.block) (s.preds block) l m t u
        (λ x e. record {
          value = w.value;
          is =
              ap (λ y. found k.made y block) e ∙ ap (λ b. found k.made w.home.var b) (sym w.in_block) ∙ kept_k.once j w.home w.value w.is;
        })
        (λ x start e h. subst (λ qs. ComesToOne (view m u x) start qs) (r.makes.grows.same_blocks.preds w.home.block ∙ ap s.preds w.in_block) h)
        (makes w.home w.value at_l));
    done = λ j' out. done j' out (cases_eq j' j) (cases_lt j' (length l.made));
    waits_still = λ n j' past is. still n j' past is (r.waits_still n j' (omega (arith, past)) is);
  }
    where
      done : (j' : ℕ) → ((n : ℕ) → i + 1 ≤ n → slice_get waiting n ≡ Some j' → ⊥) → (j' ≡ j) ⊎ (j' ≡ j → ⊥) → (j' < length l.made) ⊎ (length l.made ≤ j') → IsDone m u j'
      done j' out (inl e) f = subst (λ x. IsDone m u x) (sym e) here
      done j' out (inr d) (inl less) = settles.earlier j' less (r.done j' (λ n past is. by n past is (cases_eq n i)))
        where
          by : (n : ℕ) → i ≤ n → slice_get waiting n ≡ Some j' → (n ≡ i) ⊎ (n ≡ i → ⊥) → ⊥
          by n past is (inl e) = d (some_same j' j (sym is ∙ ap (λ x. slice_get waiting x) e ∙ at))
          by n past is (inr e) = out n (omega (arith, past, e)) is
      done j' out (inr d) (inr le) = settles.later j' le

      still : (n j' : ℕ) → i + 1 ≤ n → slice_get waiting n ≡ Some j' → Waits k t block j' → Waits k u block j'
      still n j' past is x = record {
        home = x.home;
        value = x.value;
        is = x.is;
        in_block = x.in_block;
        empty =
            stays j' x.home x.value differs
            (entry_stays (IsWaiting k block) (s.preds block) first l s t r.makes j' x.home x.value (ap (λ es. slice_get es j') same_made ∙ x.is)) x.empty;
      }
        where
          differs : j' ≡ j → ⊥
          differs e =
              omega (arith, e, increases 0 k.made block i n j j' (omega (arith, past)) (ap (λ xs. slice_get xs i) (sym listed) ∙ at) (ap (λ xs. slice_get xs n) (sym listed) ∙ is))

-- ---- all are filled

module _ {V : Type 0} (modes : ℕ → Mode) (k first m : Known V) (s u : Shape V) (settled : IsSettled modes k s) (block : ℕ) (waiting : List ℕ) (i : ℕ)
    (rest : first ≡ record k { sealed = first.sealed }) (stays : (b : ℕ) → sealed_in k.sealed b ≡ true → sealed_in first.sealed b ≡ true)
    (r : Sealing modes k first m s u block waiting i) (past : length waiting ≤ i) where
  pub seal_makes : Makes (IsWaiting k block) (s.preds block) k m s u
  seal_makes = from first.sealed (subst (λ x. Makes (IsWaiting k block) (s.preds block) x m s u) rest r.makes)
    where
      from : (flags : List Bool) → Makes (IsWaiting k block) (s.preds block) (record k { sealed = flags }) m s u → Makes (IsWaiting k block) (s.preds block) k m s u
      from flags h = record { more = h.more; made = h.made; new = h.new; grows = h.grows; fresh = h.fresh; lost = h.lost; notes = λ x n. notes x (h.notes x n) }
        where
          notes : (x : ℕ) → IsNoted (record k { sealed = flags }) x ⊎ IsWaiting k block x → IsNoted k x ⊎ IsWaiting k block x
          notes x (inl (by_made b p is)) = inl (by_made b p is)
          notes x (inl (by_passed b n is)) = inl (by_passed b n is)
          notes x (inl (by_lost b v is)) = inl (by_lost b v is)
          notes x (inr a) = inr a

  pub seal_writes : m.writes ≡ k.writes
  seal_writes = r.calls.writes ∙ ap (λ x. x.writes) rest

  pub seal_reads : m.reads ≡ k.reads
  seal_reads = r.calls.reads ∙ ap (λ x. x.reads) rest

  all_done : (j : ℕ) → IsDone m u j
  all_done j = r.done j (λ n after at. omega (arith, past, after, slice_get_within waiting n j at))

  pub seal_settled : IsSettled modes m u
  unfolding all_done
  seal_settled =
      subst (λ rs. IsSettled modes (record m { reads = rs }) u) (append_none m.reads)
      (settled_after modes (IsWaiting k block) (s.preds block) k m s u settled r.kept seal_writes seal_reads (λ b is. r.calls.sealed b ∙ stays b is) seal_makes all_done []
      (λ n x at. absurd (none_is_not_some x at)) was)
    where
      was : (x : ℕ) → IsWaiting k block x → WasRead (record m { reads = m.reads ++ [] }) x
      was x h =
          let w = settled.asked x (by_made block h.value h.is) in
          record { index = w.index; read = w.read; is = ap (λ rs. slice_get rs w.index) (append_none m.reads ∙ seal_reads) ∙ w.is; of_var = w.of_var }
