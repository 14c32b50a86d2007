-- Two runs of a statement from one state, of which the second may have more turns and a greater depth: they agree until
-- the first is cut off.
use Rattle.std.proofs.Common.{◌≡◌, refl, sym, ap, suc-ne-zero, true≢false, lt_of_lt_of_le, ◌∙◌, ℕ, zero, suc, ◌+◌, ◌≤◌, ◌<◌, le_refl, le_trans, arith, append_assoc, Bool, true, false, nat_lt, List, [], ◌++◌, Option, Some, None, slice_get}
use Rattle.std.proofs.lemmas.List.{append-nil}
use Rattle.std.proofs.lemmas.Bool.{lt-ltb, ltb-true}
use Rattle.run_model.specs.declared.outcome.Outcome.{Outcome}
use Rattle.run_model.specs.declared.outcome.Outcome.TheVariants.{Ended, Running, Undefined, Deep}
use Rattle.run_model.specs.Accesses.{loaded, stored, copied}
use Rattle.run_model.specs.Stores.{World, Store, IsPrefix}
use Rattle.c_types.specs.declared.tree.Expr.{Expr}
use Rattle.c_types.specs.declared.tree.Stmt.{Stmt}
use Rattle.c_types.specs.declared.tree.Func.{Func}
use Rattle.c_types.specs.declared.tree.Unit.{Unit as Whole}
use Rattle.c_meaning.specs.Steps.{State, Result, Gives, Stops, Step, out_of, pure, stop, and_then, ◌>>=◌, choice, known, turn_of, turn, value_at, change_bytes}
use Rattle.c_meaning.specs.Meaning.{Flow, left, entered, call_body, call_of, eval, at_turn, run}
use Rattle.c_meaning.proofs.Walk.{IsKept, with_depth, eval_kept, exec_kept}

-- ---- prefixes

pub prefix_refl : (a : List ℕ) → IsPrefix a a
prefix_refl a = record { rest = []; is = sym (append-nil a) }

pub prefix_trans : {a b c : List ℕ} → IsPrefix a b → IsPrefix b c → IsPrefix a c
prefix_trans {a} {b} {c} p q = record { rest = p.rest ++ q.rest; is = q.is ∙ ap (λ o. o ++ q.rest) p.is ∙ append_assoc a p.rest q.rest }

-- ---- states with more turns

abbrev pub more_turns : ℕ → Store → Store
more_turns more store = record store { turns = store.turns + more }

abbrev pub with_turns : ℕ → State → State
with_turns more s = record s { store = more_turns more s.store }

-- ---- the agreement of results

pub record Follows (first last : Store) : Type 0 where
  pub out : IsPrefix first.out last.out
  pub turns : last.turns ≤ first.turns

-- the second result, where the first is that the run stopped. `same` says that the depths are the same.
abbrev pub StopsAlike : Type 0 → {A : Type 0} → ℕ → Outcome → Store → Result A → Type 0
StopsAlike same more Running store other =
    (store.turns ≡ 0) × IsPrefix store.out (out_of other) × (more ≡ 0 → other ≡ Stops Running store)
StopsAlike same more Deep store other =
    IsPrefix store.out (out_of other) × (same → other ≡ Stops Deep (more_turns more store))
StopsAlike same more outcome store other = other ≡ Stops outcome (more_turns more store)

abbrev pub Agrees : Type 0 → {A : Type 0} → Store → ℕ → Result A → Result A → Type 0
Agrees same first more (Gives a s) other = (other ≡ Gives a (with_turns more s)) × Follows first s.store
Agrees same first more (Stops outcome store) other = IsPrefix first.out store.out × StopsAlike same more outcome store other

abbrev pub Grows : {A : Type 0} → Step A → Type 0
Grows step = (s : State) → IsPrefix s.store.out (out_of (step s))

-- steps that agree from each state with at most so many turns
pub record Agree (same : Type 0) (turns others : ℕ) (A : Type 0) (p q : Step A) : Type 0 where
  pub grows : Grows q
  pub agrees : (s : State) (more : ℕ) → s.store.turns ≤ turns → s.store.turns + more ≤ others
      → Agrees same s.store more (p s) (q (with_turns more s))

-- ---- steps one after the other

follows_refl : (s : Store) → Follows s s
follows_refl s = record { out = prefix_refl s.out; turns = (le_refl _) }

-- what follows a later store follows an earlier one too
later : (same : Type 0) (more : ℕ) → {A : Type 0} → {first next : Store} → Follows first next → (r other : Result A)
    → Agrees same next more r other → Agrees same first more r other
later same more f (Gives a s) other (is, rest) =
    (is, record { out = prefix_trans f.out rest.out; turns = le_trans rest.turns f.turns })
later same more f (Stops outcome store) other (out, alike) = (prefix_trans f.out out, alike)

next_grows : {A B : Type 0} → (r : Result A) (g : A → Step B) → ((a : A) → Grows (g a)) → IsPrefix (out_of r) (out_of (and_then r g))
next_grows (Gives a s) g grows = grows a s
next_grows (Stops outcome store) g grows = prefix_refl store.out

stops_next : (same : Type 0) (more : ℕ) → {A B : Type 0} → (outcome : Outcome) (store : Store) (other : Result A) (g : A → Step B)
    → ((a : A) → Grows (g a)) → StopsAlike same more outcome store other → StopsAlike same more outcome store (and_then other g)
stops_next same more Running store other g grows (used, out, alike) =
    (used, prefix_trans out (next_grows other g grows), λ none. ap (λ r. and_then r g) (alike none))
stops_next same more Deep store other g grows (out, alike) =
    (prefix_trans out (next_grows other g grows), λ is. ap (λ r. and_then r g) (alike is))
stops_next same more Undefined store other g grows alike = ap (λ r. and_then r g) alike
stops_next same more (Ended status) store other g grows alike = ap (λ r. and_then r g) alike

module _ {same : Type 0} {turns others : ℕ} where
  agrees_next : {A B : Type 0} → (first : Store) (more : ℕ) (r other : Result A) (f g : A → Step B)
      → first.turns ≤ turns → first.turns + more ≤ others
      → Agrees same first more r other
      → ((a : A) → Agree same turns others B (f a) (g a))
      → Agrees same first more (and_then r f) (and_then other g)
  agrees_next first more (Gives a s) other f g few few_more (is, follows) next =
      rw is (later same more follows (f a s) (g a (with_turns more s))
      ((next a).agrees s more (le_trans follows.turns few) (omega (arith, follows.turns, few_more))))
  agrees_next first more (Stops outcome store) other f g few few_more (out, alike) next =
      (out, stops_next same more outcome store other g (λ a. (next a).grows) alike)

  agree_next : {A B : Type 0} → {p q : Step A} → {f g : A → Step B}
      → Agree same turns others A p q → ((a : A) → Agree same turns others B (f a) (g a))
      → Agree same turns others B (p >>= f) (q >>= g)
  agree_next {p = p} {q = q} {f = f} {g = g} first next = record {
    grows = λ s. prefix_trans (first.grows s) (next_grows (q s) g (λ a. (next a).grows));
    agrees = λ s more few few_more. agrees_next s.store more (p s) (q (with_turns more s)) f g few few_more
        (first.agrees s more few few_more) next;
  }

  -- ---- the parts of steps

  agree_pure : {A : Type 0} → (a : A) → Agree same turns others A (pure a) (pure a)
  agree_pure a = record {
    grows = λ s. prefix_refl s.store.out;
    agrees = λ s more few few_more. (refl, follows_refl s.store);
  }

  agree_undefined : {A : Type 0} → Agree same turns others A (stop Undefined) (stop Undefined)
  agree_undefined = record {
    grows = λ s. prefix_refl s.store.out;
    agrees = λ s more few few_more. (prefix_refl s.store.out, refl);
  }

  agree_known : {A : Type 0} → (a : Option A) → Agree same turns others A (known a) (known a)
  agree_known (Some a) = agree_pure a
  agree_known None = agree_undefined

  agree_change : (bytes : Option (List ℕ)) → Agree same turns others (Unit {0}) (change_bytes bytes) (change_bytes bytes)
  agree_change (Some bytes) = record {
    grows = λ s. prefix_refl s.store.out;
    agrees = λ s more few few_more. (refl, record { out = prefix_refl s.store.out; turns = le_refl _ });
  }
  agree_change None = agree_undefined

  -- a step whose next step depends on the state, but not on its turns
  agree_from : {A : Type 0} → {B : Type 0} → (look : State → B) → ((s : State) (more : ℕ) → look (with_turns more s) ≡ look s)
      → {step : B → Step A} → ((b : B) → Agree same turns others A (step b) (step b))
      → Agree same turns others A (λ s. step (look s) s) (λ s. step (look s) s)
  agree_from look alike {step = step} agree = record {
    grows = λ s. (agree (look s)).grows s;
    agrees = λ s more few few_more. rw (alike s more) ((agree (look s)).agrees s more few few_more);
  }

  pub agree_kept : (w : World) → IsKept w (Agree same turns others)
  agree_kept w = record {
    by_pure = agree_pure;
    by_undefined = agree_undefined;
    by_next = agree_next;
    by_read_local = λ x. agree_from (λ s. value_at (slice_get s.locals x)) (λ s more. refl) agree_known;
    by_write_local = λ x v. record {
      grows = λ s. prefix_refl s.store.out;
      agrees = λ s more few few_more. (refl, follows_refl s.store);
    };
    by_read_data = λ kind at. agree_from (λ s. loaded w.base s.store.bytes kind at) (λ s more. refl) agree_known;
    by_write_data = λ kind at v. agree_from (λ s. stored w.base s.store.bytes kind at v) (λ s more. refl) agree_change;
    by_copy_data = λ size align to from. agree_from (λ s. copied w.base s.store.bytes size align to from) (λ s more. refl) agree_change;
    by_read_byte = record {
      grows = λ s. prefix_refl s.store.out;
      agrees = λ s more few few_more. (refl, record { out = prefix_refl s.store.out; turns = le_refl _ });
    };
    by_write_byte = λ v. record {
      grows = λ s. record { rest = _; is = refl };
      agrees = λ s more few few_more. (refl, record { out = record { rest = _; is = refl }; turns = le_refl _ });
    };
  }

-- ---- turns

-- so many turns are left
abbrev left_are : ℕ → State → State
left_are turns s = record s { store = record s.store { turns = turns } }

turn_grows : {A : Type 0} → (q : Step A) → Grows q → (k : ℕ) (s : State) → IsPrefix s.store.out (out_of (turn_of k q s))
turn_grows q grows zero s = prefix_refl s.store.out
turn_grows q grows (suc k) s = grows (left_are k s)

pub same_turns : (s : Store) → more_turns 0 s ≡ s
same_turns s = ap (λ turns. record s { turns = turns }) (omega arith)

none_left : {A : Type 0} → (q : Step A) (total more : ℕ) (s : State) → total ≡ more → more ≡ 0 → turn_of total q (with_turns more s) ≡ Stops Running s.store
none_left q zero more s is none = rw none (ap (Stops Running) (same_turns s.store))
none_left q (suc total) more s is none = absurd (suc-ne-zero total (is ∙ none))

total_is : (k total more : ℕ) → suc total ≡ suc k + more → total ≡ k + more
total_is k total more sum = omega (arith, sum)

-- steps that agree with one turn less agree behind a turn
agree_turn : (same : Type 0) (turns others : ℕ) → {A : Type 0} → {p q : Step A} → Grows q
    → ((s : State) (more : ℕ) → s.store.turns < turns → s.store.turns + more < others → Agrees same s.store more (p s) (q (with_turns more s)))
    → Agree same turns others A (turn p) (turn q)
agree_turn same turns others {A = A} {p = p} {q = q} grows below = record {
  grows = λ s. turn_grows q grows s.store.turns s;
  agrees = λ s more few few_more. go s.store.turns (s.store.turns + more) s more refl refl few few_more;
}
  where
    go : (k total : ℕ) (s : State) (more : ℕ) → k ≡ s.store.turns → total ≡ k + more → k ≤ turns → total ≤ others
        → Agrees same s.store more (turn_of k p s) (turn_of total q (with_turns more s))
    go zero total s more none sum few few_more =
        (prefix_refl s.store.out, (sym none, turn_grows q grows total (with_turns more s), none_left q total more s (omega (arith, sum))))
    go (suc k) zero s more is sum few few_more = absurd (omega (arith, sum))
    go (suc k) (suc total) s more is sum few few_more =
        rw (total_is k total more sum) (later same more (record { out = prefix_refl s.store.out; turns = omega (arith, is) }) (p (left_are k s)) (q (with_turns more (left_are k s)))
        (below (left_are k s) more few (omega (arith, sum, few_more))))

-- ---- calls

left_grows : (f : Func) (caller : State) (r : Result Flow) → out_of (left f caller r) ≡ out_of r
left_grows f caller (Gives flow s) = refl
left_grows f caller (Stops outcome store) = refl

left_alike : (same : Type 0) (more : ℕ) (f : Func) (caller : State) (r other : Result Flow)
    → Agrees same caller.store more r other
    → Agrees same caller.store more (left f caller r) (left f (with_turns more caller) other)
left_alike same more f caller (Gives flow s) other (is, follows) =
    rw is (refl, record { out = follows.out; turns = follows.turns })
left_alike same more f caller (Stops Running store) other (out, (used, longer, alike)) =
    (out, (used, rw (left_grows f (with_turns more caller) other) longer, λ none. ap (left f (with_turns more caller)) (alike none)))
left_alike same more f caller (Stops Deep store) other (out, (longer, alike)) =
    (out, (rw (left_grows f (with_turns more caller) other) longer, λ is. ap (left f (with_turns more caller)) (alike is)))
left_alike same more f caller (Stops Undefined store) other (out, alike) = (out, ap (left f (with_turns more caller)) alike)
left_alike same more f caller (Stops (Ended status) store) other (out, alike) = (out, ap (left f (with_turns more caller)) alike)

-- two worlds: the second depth is not smaller, and where `same` holds it is the same
module _ (u : Whole) (w : World) (depth : ℕ) (same : Type 0) (deeper : w.depth ≤ depth) (equal : same → depth ≡ w.depth) where
  -- what statements do from a turn, where they agree with fewer turns
  module _ (turns others : ℕ) (again other : Stmt → Step Flow)
      (grows : (st : Stmt) → Grows (other st))
      (below : (st : Stmt) (s : State) (more : ℕ) → s.store.turns < turns → s.store.turns + more < others
      → Agrees same s.store more (again st s) (other st (with_turns more s))) where
    loop_agrees : (st : Stmt) → Agree same turns others Flow (turn (again st)) (turn (other st))
    loop_agrees st = agree_turn same turns others (grows st) (below st)

    body_agrees : (f : Func) (arguments : List ℕ)
        → Agree same turns others (Option ℕ) (call_body u w again f arguments) (call_body u (with_depth w depth) other f arguments)
    body_agrees f arguments = agree_turn same turns others
        (λ s. rw (left_grows f s (other f.body (entered f arguments s))) (grows f.body (entered f arguments s)))
        (λ s more few few_more. left_alike same more f s (again f.body (entered f arguments s)) (other f.body (entered f arguments (with_turns more s)))
        (later same more (record { out = prefix_refl s.store.out; turns = le_refl _ }) _ _
        (below f.body (entered f arguments s) more few few_more)))

    call_grows : (q : Step (Option ℕ)) → Grows q → (s : State) (b : Bool) → IsPrefix s.store.out (out_of (choice b q (stop Deep) s))
    call_grows q q_grows s true = q_grows s
    call_grows q q_grows s false = prefix_refl s.store.out

    call_agrees : (f : Option Func) (arguments : List ℕ)
        → Agree same turns others (Option ℕ) (call_of u w again f arguments) (call_of u (with_depth w depth) other f arguments)
    call_agrees None arguments = agree_undefined
    call_agrees (Some f) arguments = record {
      grows = λ s. call_grows _ (body_agrees f arguments).grows s (nat_lt s.store.active depth);
      agrees = λ s more few few_more. go s more few few_more (nat_lt s.store.active w.depth) refl (nat_lt s.store.active depth) refl;
    }
      where
        go : (s : State) (more : ℕ) → s.store.turns ≤ turns → s.store.turns + more ≤ others
            → (b : Bool) → b ≡ nat_lt s.store.active w.depth → (c : Bool) → c ≡ nat_lt s.store.active depth
            → Agrees same s.store more (choice b (call_body u w again f arguments) (stop Deep) s)
            (choice c (call_body u (with_depth w depth) other f arguments) (stop Deep) (with_turns more s))
        go s more few few_more true is true is_too = (body_agrees f arguments).agrees s more few few_more
        go s more few few_more true is false is_too =
            absurd (true≢false (sym (is_too ∙ lt-ltb s.store.active depth (lt_of_lt_of_le (ltb-true s.store.active w.depth (sym is)) deeper))))
        go s more few few_more false is c is_too = (
          prefix_refl s.store.out,
          (
            call_grows _ (body_agrees f arguments).grows (with_turns more s) c,
            λ equal_depths. rw (is_too ∙ ap (nat_lt s.store.active) (equal equal_depths) ∙ sym is) refl,
          ),
        )

  abbrev Alike : ℕ → ℕ → Type 0
  Alike others turns = (st : Stmt) → Agree same turns others Flow (run u w turns st) (run u (with_depth w depth) others st)

  abbrev Grow : ℕ → Type 0
  Grow others = (st : Stmt) → Grows (at_turn u (with_depth w depth) others st)

  abbrev AlikeBelow : ℕ → ℕ → Type 0
  AlikeBelow others turns = (st : Stmt) (s : State) (more : ℕ) → s.store.turns < turns → s.store.turns + more < others
      → Agrees same s.store more (at_turn u w turns st s) (at_turn u (with_depth w depth) others st (with_turns more s))

  by_turns : (others turns : ℕ) → Grow others → AlikeBelow others turns → Alike others turns
  by_turns others turns grow below = exec_kept u w depth (Agree same turns others) (agree_kept w)
      (at_turn u w turns) (at_turn u (with_depth w depth) others)
      (loop_agrees turns others (at_turn u w turns) (at_turn u (with_depth w depth) others) grow below)
      (call_agrees turns others (at_turn u w turns) (at_turn u (with_depth w depth) others) grow below)

  alike_below : (others : ℕ) → ((turns : ℕ) → Alike others turns) → (turns : ℕ) → AlikeBelow (suc others) turns
  unfolding at_turn
  alike_below others alike zero st s more few few_more = absurd (omega (arith, few))
  alike_below others alike (suc turns) st s more few few_more =
      (alike turns st).agrees s more (omega (arith, few)) (omega (arith, few_more))

  pub run_agrees : (others turns : ℕ) → Alike others turns
  unfolding at_turn
  run_agrees zero turns = by_turns zero turns (λ st s. prefix_refl s.store.out) (λ st s more few few_more. absurd (omega (arith, few_more)))
  run_agrees (suc others) turns = by_turns (suc others) turns (λ st. (run_agrees others 0 st).grows) (alike_below others (run_agrees others) turns)

  pub grow_at : (others : ℕ) → Grow others
  unfolding at_turn
  grow_at zero st s = prefix_refl s.store.out
  grow_at (suc others) st s = (run_agrees others 0 st).grows s

  below_at : (others turns : ℕ) → AlikeBelow others turns
  below_at zero turns st s more few few_more = absurd (omega (arith, few_more))
  below_at (suc others) turns st s more few few_more = alike_below others (run_agrees others) turns st s more few few_more

  pub eval_agrees : (others turns : ℕ) (e : Expr) → Agree same turns others (Option ℕ) (eval u w (at_turn u w turns) e) (eval u (with_depth w depth) (at_turn u (with_depth w depth) others) e)
  eval_agrees others turns = eval_kept u w depth (Agree same turns others) (agree_kept w)
      (at_turn u w turns) (at_turn u (with_depth w depth) others)
      (loop_agrees turns others (at_turn u w turns) (at_turn u (with_depth w depth) others) (grow_at others) (below_at others turns))
      (call_agrees turns others (at_turn u w turns) (at_turn u (with_depth w depth) others) (grow_at others) (below_at others turns))
