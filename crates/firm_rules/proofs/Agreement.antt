-- The run as a relation and the run as a function agree, so the run is determined.
use Rattle.std.proofs.Common.{◌≡◌, refl, sym, ap, ◌∙◌, subst, ℕ, zero, suc, ◌+◌, ◌<◌, ◌≤◌, arith, le_refl, le_trans, Bool, true, false, List, [], ◌∷◌, length, Option}
use Rattle.std.specs.Prelude.{not, ◌==◌}
use Rattle.std.proofs.lemmas.Bool.{ltb-true}
use Rattle.std.proofs.lemmas.List.Sums.{prefix_len-le-length}
use Rattle.run_model.specs.declared.outcome.Outcome.TheVariants.{Running}
use Rattle.run_model.specs.Stores.{World, Store}
use Rattle.firm_rules.specs.Graphs.{Firm, Program}
use Rattle.firm_rules.specs.Lookups.{first_of, rank, is_later}
use Rattle.firm_rules.specs.Rules.{chain}
use Rattle.firm_rules.specs.Frames.{Frame, first_frame, with_word, after_edge}
use Rattle.firm_rules.specs.Runs.{came, Result, gives, stops, Begun, does, enters, begun, wants_value, after_call, Exit, ends, goes, exit, Runs, acted, stopped, called, stopped_in, ended, went, Again, then_word, given, exit_to, in_block, from_block, run}
use Rattle.firm_rules.proofs.Steps.{behind, found, found_behind, turns_of, BegunFalls, begun_falls, after_call_falls, ExitWell, exit_ends, exit_forth, exit_back, exit_well}

abbrev Inside : Type 0
Inside = Frame → Store → Result (Option ℕ)

module _ (p : Program) (w : World) where
  -- a run leaves no more turns
  pub falls : {g : Firm} {b : ℕ} {ns : List ℕ} {f : Frame} {s : Store} {r : Result (Option ℕ)} → Runs p w g b ns f s r → turns_of r ≤ s.turns
  falls {g = g} {b = b} {f = f} {s = s} (acted {n = n} word t e more) = le_trans (falls more) (subst (BegunFalls s.turns) e (begun_falls p w g b f n s))
  falls {g = g} {b = b} {f = f} {s = s} (stopped {n = n} outcome t e) = subst (BegunFalls s.turns) e (begun_falls p w g b f n s)
  falls {g = g} {b = b} {f = f} {s = s} (called {n = n} callee arguments t result word u e inner after more) =
      let uses = subst (BegunFalls s.turns) e (begun_falls p w g b f n s) in
      let leaves = subst (λ x. turns_of x ≤ turns_of result) after (after_call_falls (wants_value g n) s.active result) in
      omega (arith, uses, leaves, falls inner, falls more)
  falls {g = g} {b = b} {f = f} {s = s} (stopped_in {n = n} callee arguments t result outcome u e inner after) =
      let uses = subst (BegunFalls s.turns) e (begun_falls p w g b f n s) in
      let leaves = subst (λ x. turns_of x ≤ turns_of result) after (after_call_falls (wants_value g n) s.active result) in
      omega (arith, uses, leaves, falls inner)
  falls {g = g} {b = b} {f = f} {s = s} (ended {r = r} e) = by (subst (ExitWell g b s) e (exit_well p w g b f s))
    where
      by : ExitWell g b s (ends r) → turns_of r ≤ s.turns
      by (exit_ends r same) = omega (arith, same)
  falls {g = g} {b = b} {f = f} {s = s} (went to at t e more) = le_trans (falls more) (by (subst (ExitWell g b s) e (exit_well p w g b f s)))
    where
      by : ExitWell g b s (goes to at t) → t.turns ≤ s.turns
      by (exit_forth to at t later same) = omega (arith, same)
      by (exit_back to at t later same) = omega (arith, same)

  -- ---- the function, from within a block

  -- where at most so many turns are left, after one was used
  abbrev pub again_of : ℕ → Again p w
  again_of zero = λ g b f s. stops (came Running) s
  again_of (suc turns) = run p w turns

  run_is : (turns : ℕ) (g : Firm) (b : ℕ) (f : Frame) (s : Store) → run p w turns g b f s ≡ from_block p w (again_of turns) g g.order b f s
  unfolding run
  run_is zero g b f s = refl
  run_is (suc turns) g b f s = refl

  abbrev pub from_within : ℕ → Firm → ℕ → List ℕ → Frame → Store → Result (Option ℕ)
  from_within turns g b ns f s = in_block p w (again_of turns) g (behind p w (again_of turns) g g.order b) b ns f s

  pub run_within : (turns : ℕ) (g : Firm) (b : ℕ) (f : Frame) (s : Store) → run p w turns g b f s ≡ from_within turns g b (chain g b) f s
  run_within turns g b f s = run_is turns g b f s ∙ ap (λ (from : Inside). from f s) (found p w (again_of turns) g g.order b)

  -- a jump on to a later block
  forth : (turns : ℕ) (g : Firm) (b to : ℕ) (f : Frame) (s : Store) → is_later g b to ≡ true
      → behind p w (again_of turns) g g.order b to f s ≡ from_within turns g to (chain g to) f s
  forth turns g b to f s later =
      ap (λ (from : Inside). from f s) (found_behind p w (again_of turns) g g.order b to (ltb-true (rank g b) (rank g to) later))
      ∙ ap (λ (from : Inside). from f s) (found p w (again_of turns) g g.order to)

  -- ---- what the relation says, the function gives

  again_is : (turns : ℕ) (g : Firm) (b : ℕ) (f : Frame) (s : Store) (r : Result (Option ℕ)) → s.turns < turns
      → ((k : ℕ) → s.turns ≤ k → from_within k g b (chain g b) f s ≡ r) → again_of turns g b f s ≡ r
  again_is zero g b f s r few each = absurd (omega (arith, few))
  again_is (suc k) g b f s r few each = run_within k g b f s ∙ each k (omega (arith, few))

  -- what the first of the nodes gives, and what comes after it
  abbrev after_node : ℕ → Firm → ℕ → ℕ → List ℕ → Frame → Store → Result ℕ → Result (Option ℕ)
  after_node turns g b n rest f s r = then_word p w r (λ word t. from_within turns g b rest (with_word f n word) t)

  abbrev node_gives : ℕ → Firm → ℕ → Store → Begun → Result ℕ
  node_gives turns g n s x = given p w (again_of turns) g s.active n x

  fewer : (g : Firm) (b n : ℕ) (f : Frame) (s : Store) {word : ℕ} {t : Store} → (turns : ℕ) → s.turns ≤ turns → begun p w g b f n s ≡ does (gives word t) → t.turns ≤ turns
  fewer g b n f s turns few e = le_trans (subst (BegunFalls s.turns) e (begun_falls p w g b f n s)) few

  fewer_called : (g : Firm) (b n : ℕ) (f : Frame) (s : Store) {callee : Firm} {arguments : List ℕ} {t : Store} → (turns : ℕ) → s.turns ≤ turns
      → begun p w g b f n s ≡ enters callee arguments t → t.turns < turns
  fewer_called g b n f s turns few e =
      let uses = subst (BegunFalls s.turns) e (begun_falls p w g b f n s) in omega (arith, uses, few)

  fewer_after : (g : Firm) (n : ℕ) (s t : Store) (result : Result (Option ℕ)) (word : ℕ) (u : Store) (turns : ℕ) → turns_of result ≤ t.turns → t.turns < turns
      → after_call (wants_value g n) s.active result ≡ gives word u → u.turns ≤ turns
  fewer_after g n s t result word u turns inner few after =
      let leaves = subst (λ x. turns_of x ≤ turns_of result) after (after_call_falls (wants_value g n) s.active result) in
      omega (arith, leaves, inner, few)

  pub is_run : {g : Firm} {b : ℕ} {ns : List ℕ} {f : Frame} {s : Store} {r : Result (Option ℕ)} → Runs p w g b ns f s r
      → (turns : ℕ) → s.turns ≤ turns → from_within turns g b ns f s ≡ r
  is_run {g = g} {b = b} {f = f} {s = s} (acted {n = n} {rest = rest} word t e more) turns few =
      ap (λ x. after_node turns g b n rest f s (node_gives turns g n s x)) e
      ∙ is_run more turns (fewer g b n f s turns few e)
  is_run {g = g} {b = b} {f = f} {s = s} (stopped {n = n} {rest = rest} outcome t e) turns few =
      ap (λ x. after_node turns g b n rest f s (node_gives turns g n s x)) e
  is_run {g = g} {b = b} {f = f} {s = s} (called {n = n} {rest = rest} callee arguments t result word u e inner after more) turns few =
      let less = fewer_called g b n f s turns few e in
      let called_is = again_is turns callee (first_of callee.order) (first_frame arguments) t result less (λ k enough. is_run inner k enough) in
      ap (λ x. after_node turns g b n rest f s (node_gives turns g n s x)) e
      ∙ ap (λ x. after_node turns g b n rest f s (after_call (wants_value g n) s.active x)) called_is
      ∙ ap (λ x. after_node turns g b n rest f s x) after
      ∙ is_run more turns (fewer_after g n s t result word u turns (falls inner) less after)
  is_run {g = g} {b = b} {f = f} {s = s} (stopped_in {n = n} {rest = rest} callee arguments t result outcome u e inner after) turns few =
      let less = fewer_called g b n f s turns few e in
      let called_is = again_is turns callee (first_of callee.order) (first_frame arguments) t result less (λ k enough. is_run inner k enough) in
      ap (λ x. after_node turns g b n rest f s (node_gives turns g n s x)) e
      ∙ ap (λ x. after_node turns g b n rest f s (after_call (wants_value g n) s.active x)) called_is
      ∙ ap (λ x. after_node turns g b n rest f s x) after
  is_run {g = g} {b = b} {f = f} {s = s} (ended e) turns few =
      ap (exit_to p w (again_of turns) g (behind p w (again_of turns) g g.order b) b f) e
  is_run {g = g} {b = b} {f = f} {s = s} {r = r} (went to at t e more) turns few =
      ap (exit_to p w (again_of turns) g (behind p w (again_of turns) g g.order b) b f) e
      ∙ by (subst (ExitWell g b s) e (exit_well p w g b f s)) (λ k enough. is_run more k enough)
    where
      next : Frame
      next = after_edge w.base g b f to at

      on : (later : Bool) → Result (Option ℕ)
      on later = elim later [ true ↦ behind p w (again_of turns) g g.order b to next t | false ↦ again_of turns g to next t ]

      by : ExitWell g b s (goes to at t) → ((k : ℕ) → t.turns ≤ k → from_within k g to (chain g to) next t ≡ r) → on (is_later g b to) ≡ r
      by (exit_forth to at t later same) each = ap on later ∙ forth turns g b to next t later ∙ each turns (omega (arith, same, few))
      by (exit_back to at t later same) each = ap on later ∙ again_is turns g to next t r (omega (arith, same, few)) each

  -- ---- what the function gives, the relation says

  -- the room of a block: how many blocks may still be found behind it
  abbrev Total : ℕ → ℕ → Type 0
  Total turns room = (g : Firm) (b : ℕ) (ns : List ℕ) (f : Frame) (s : Store) → s.turns ≤ turns → length g.order ≤ rank g b + room
      → Runs p w g b ns f s (from_within turns g b ns f s)

  -- from a block on, after a turn was used
  abbrev TotalAgain : ℕ → Type 0
  TotalAgain turns = (g : Firm) (b : ℕ) (f : Frame) (s : Store) → s.turns < turns → Runs p w g b (chain g b) f s (again_of turns g b f s)

  -- on to a later block
  abbrev TotalForth : ℕ → ℕ → Type 0
  TotalForth turns room = (g : Firm) (b to : ℕ) (f : Frame) (s : Store) → is_later g b to ≡ true → s.turns ≤ turns → length g.order ≤ rank g b + room
      → Runs p w g to (chain g to) f s (from_within turns g to (chain g to) f s)

  total_in : (turns room : ℕ) → TotalAgain turns → TotalForth turns room → Total turns room
  total_in turns room again on g b [] f s few near = by (exit p w g b f s) refl (exit_well p w g b f s)
    where
      next : ℕ → ℕ → Frame
      next to at = after_edge w.base g b f to at

      after : ℕ → ℕ → Store → Bool → Result (Option ℕ)
      after to at t later = elim later [ true ↦ behind p w (again_of turns) g g.order b to (next to at) t | false ↦ again_of turns g to (next to at) t ]

      by : (x : Exit) → exit p w g b f s ≡ x → ExitWell g b s x
          → Runs p w g b [] f s (exit_to p w (again_of turns) g (behind p w (again_of turns) g g.order b) b f x)
      by (ends r) e well = ended e
      by (goes to at t) e (exit_forth _ _ _ later same) =
          went to at t e (subst (Runs p w g to (chain g to) (next to at) t)
          (sym (ap (after to at t) later ∙ forth turns g b to (next to at) t later))
          (on g b to (next to at) t later (omega (arith, same, few)) near))
      by (goes to at t) e (exit_back _ _ _ later same) =
          went to at t e (subst (Runs p w g to (chain g to) (next to at) t)
          (sym (ap (after to at t) later))
          (again g to (next to at) t (omega (arith, same, few))))
  total_in turns room again on g b (n ∷ rest) f s few near =
      by (begun p w g b f n s) refl (begun_falls p w g b f n s)
      (λ word t less. total_in turns room again on g b rest (with_word f n word) t less near)
    where
      More : Type 0
      More = (word : ℕ) (t : Store) → t.turns ≤ turns → Runs p w g b rest (with_word f n word) t (from_within turns g b rest (with_word f n word) t)

      by_called : (callee : Firm) (arguments : List ℕ) (t : Store) → begun p w g b f n s ≡ enters callee arguments t → t.turns < turns → More
          → (result : Result (Option ℕ)) → Runs p w callee (first_of callee.order) (chain callee (first_of callee.order)) (first_frame arguments) t result
          → (x : Result ℕ) → after_call (wants_value g n) s.active result ≡ x → Runs p w g b (n ∷ rest) f s (after_node turns g b n rest f s x)
      by_called callee arguments t e less more result inner (gives word u) is =
          called callee arguments t result word u e inner is (more word u (fewer_after g n s t result word u turns (falls inner) less is))
      by_called callee arguments t e less more result inner (stops outcome u) is = stopped_in callee arguments t result outcome u e inner is

      by : (x : Begun) → begun p w g b f n s ≡ x → BegunFalls s.turns x → More
          → Runs p w g b (n ∷ rest) f s (after_node turns g b n rest f s (node_gives turns g n s x))
      by (does (gives word t)) e less more = acted word t e (more word t (le_trans less few))
      by (does (stops outcome t)) e less more = stopped outcome t e
      by (enters callee arguments t) e uses more =
          by_called callee arguments t e (omega (arith, uses, few)) more
          (again_of turns callee (first_of callee.order) (first_frame arguments) t)
          (again callee (first_of callee.order) (first_frame arguments) t (omega (arith, uses, few)))
          (after_call (wants_value g n) s.active (again_of turns callee (first_of callee.order) (first_frame arguments) t)) refl

  place_within : (g : Firm) (b : ℕ) → rank g b ≤ length g.order
  place_within g b = prefix_len-le-length (λ c. not (c == b)) g.order

  -- by how many blocks may stand behind a block
  total_by : (turns room : ℕ) → TotalAgain turns → Total turns room
  total_by turns zero again = total_in turns zero again on
    where
      on : TotalForth turns zero
      on g b to f s later few near =
          let less = ltb-true (rank g b) (rank g to) later in absurd (omega (arith, less, place_within g to, near))
  total_by turns (suc room) again = total_in turns (suc room) again (on (total_by turns room again))
    where
      on : Total turns room → TotalForth turns (suc room)
      on total g b to f s later few near =
          let less = ltb-true (rank g b) (rank g to) later in total g to (chain g to) f s few (omega (arith, less, near))

  total : (turns : ℕ) → (room : ℕ) → Total turns room
  total zero room = total_by zero room (λ g b f s few. absurd (omega (arith, few)))
  total (suc turns) room = total_by (suc turns) room (again (total turns))
    where
      again : ((room : ℕ) → Total turns room) → TotalAgain (suc turns)
      again before g b f s few =
          subst (Runs p w g b (chain g b) f s) (sym (run_within turns g b f s))
          (before (length g.order) g b (chain g b) f s (omega (arith, few)) (omega arith))

  pub run_runs : (turns : ℕ) (g : Firm) (b : ℕ) (f : Frame) (s : Store) → s.turns ≤ turns → Runs p w g b (chain g b) f s (run p w turns g b f s)
  run_runs turns g b f s few =
      subst (Runs p w g b (chain g b) f s) (sym (run_within turns g b f s))
      (total turns (length g.order) g b (chain g b) f s few (omega arith))

  -- the run is determined, and is what the function gives
  pub determined : {g : Firm} {b : ℕ} {ns : List ℕ} {f : Frame} {s : Store} {r q : Result (Option ℕ)} → Runs p w g b ns f s r → Runs p w g b ns f s q → r ≡ q
  determined {s = s} one other = sym (is_run one s.turns (le_refl s.turns)) ∙ is_run other s.turns (le_refl s.turns)

  pub runs_are : {g : Firm} {b : ℕ} {f : Frame} {s : Store} {r : Result (Option ℕ)} → (turns : ℕ) → s.turns ≤ turns → Runs p w g b (chain g b) f s r → run p w turns g b f s ≡ r
  runs_are {g = g} {b = b} {f = f} {s = s} turns few one = run_within turns g b f s ∙ is_run one turns few
