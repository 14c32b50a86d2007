-- The laws of runs, from the agreement of two runs.
use Rattle.std.proofs.Common.{◌≡◌, ◌≢◌, refl, sym, ap, ◌∙◌, subst, ℕ, zero, suc, ◌+◌, ◌-◌, ◌≤◌, le_refl, arith, true≢false, Bool, true, false, ◌⊎◌, inl, inr, ⊎_elim, List, [], Option, Some, None}
use Rattle.cp_base.specs.declared.layout.Layout.{Layout}
use Rattle.run_model.specs.declared.outcome.Outcome.{Outcome}
use Rattle.run_model.specs.declared.outcome.Outcome.TheVariants.{Ended, Running, Undefined, Deep}
use Rattle.run_model.specs.Stores.{World, Store, IsPrefix}
use Rattle.c_types.specs.declared.tree.Expr.{Expr}
use Rattle.c_types.specs.declared.tree.Stmt.{Stmt}
use Rattle.c_types.specs.declared.tree.Func.{Func}
use Rattle.c_types.specs.declared.tree.Unit.{Unit as Whole}
use Rattle.c_meaning.specs.Steps.{State, Result, Gives, Stops, out_of}
use Rattle.c_meaning.specs.Meaning.{Flow, eval, at_turn, run}
use Rattle.c_meaning.specs.Runs.{ran, main_of, first_state, run_main, c_run}
use Rattle.c_meaning.proofs.Walk.{with_depth}
use Rattle.c_meaning.proofs.Agreement.{prefix_refl, Agree, Agrees, StopsAlike, with_turns, same_turns, run_agrees, eval_agrees}

-- ---- one depth and one number of turns

-- the state is the same with no more turns
same_state : (s : State) → with_turns 0 s ≡ s
same_state s = ap (λ store. record s { store = store }) (same_turns s.store)

alike_stops : {A : Type 0} → (outcome : Outcome) (store : Store) (other : Result A)
    → StopsAlike (Unit {0}) 0 outcome store other → Stops outcome store ≡ other
alike_stops Running store other (used, out, alike) = sym (alike refl)
alike_stops Deep store other (out, alike) = sym (alike tt ∙ ap (Stops Deep) (same_turns store))
alike_stops Undefined store other alike = sym (alike ∙ ap (Stops Undefined) (same_turns store))
alike_stops (Ended status) store other alike = sym (alike ∙ ap (Stops (Ended status)) (same_turns store))

same_result : {A : Type 0} → (first : Store) (r other : Result A) → Agrees (Unit {0}) first 0 r other → r ≡ other
same_result first (Gives a s) other (is, follows) = sym (is ∙ ap (Gives a) (same_state s))
same_result first (Stops outcome store) other (out, alike) = alike_stops outcome store other alike

module _ (u : Whole) (w : World) where
  run_alike : (others turns : ℕ) (st : Stmt) → Agree (Unit {0}) turns others Flow (run u w turns st) (run u w others st)
  run_alike = run_agrees u w w.depth (Unit {0}) (le_refl w.depth) (λ _. refl)

  eval_alike : (others turns : ℕ) (e : Expr) → Agree (Unit {0}) turns others (Option ℕ) (eval u w (at_turn u w turns) e) (eval u w (at_turn u w others) e)
  eval_alike = eval_agrees u w w.depth (Unit {0}) (le_refl w.depth) (λ _. refl)

  pub statement_grows : (turns : ℕ) (st : Stmt) (s : State) → IsPrefix s.store.out (out_of (run u w turns st s))
  statement_grows turns st s = (run_alike turns 0 st).grows s

  pub expression_grows : (turns : ℕ) (e : Expr) (s : State) → IsPrefix s.store.out (out_of (eval u w (at_turn u w turns) e s))
  expression_grows turns e s = (eval_alike turns 0 e).grows s

  no_more : (turns : ℕ) (s : State) → s.store.turns ≤ turns → s.store.turns + 0 ≤ turns
  no_more turns s few = omega (arith, few)

  pub statement_bound : (turns others : ℕ) (st : Stmt) (s : State) → s.store.turns ≤ turns → s.store.turns ≤ others
      → run u w turns st s ≡ run u w others st s
  statement_bound turns others st s few few_too =
      same_result s.store (run u w turns st s) (run u w others st s)
      (subst (λ t. Agrees (Unit {0}) s.store 0 (run u w turns st s) (run u w others st t)) (same_state s)
      ((run_alike others turns st).agrees s 0 few (no_more others s few_too)))

  pub expression_bound : (turns others : ℕ) (e : Expr) (s : State) → s.store.turns ≤ turns → s.store.turns ≤ others
      → eval u w (at_turn u w turns) e s ≡ eval u w (at_turn u w others) e s
  expression_bound turns others e s few few_too =
      same_result s.store (eval u w (at_turn u w turns) e s) (eval u w (at_turn u w others) e s)
      (subst (λ t. Agrees (Unit {0}) s.store 0 (eval u w (at_turn u w turns) e s) (eval u w (at_turn u w others) e t)) (same_state s)
      ((eval_alike others turns e).agrees s 0 few (no_more others s few_too)))

-- ---- turns fall

turns_of_gives : {A : Type 0} → (same : Type 0) (more : ℕ) (first : Store) (a : A) (t : State) (other : Result A)
    → Agrees same first more (Gives a t) other → t.store.turns ≤ first.turns
turns_of_gives same more first a t other (is, follows) = follows.turns

turns_of_running : {A : Type 0} → (same : Type 0) (more : ℕ) (first store : Store) (other : Result A)
    → Agrees same first more (Stops Running store) other → store.turns ≡ 0
turns_of_running same more first store other (out, (used, longer, alike)) = used

module _ (u : Whole) (w : World) where
  of_itself : (turns : ℕ) (st : Stmt) (s : State) → s.store.turns ≤ turns → Agrees (Unit {0}) s.store 0 (run u w turns st s) (run u w turns st (with_turns 0 s))
  of_itself turns st s few = (run_alike u w turns turns st).agrees s 0 few (no_more u w turns s few)

  pub statement_falls : (turns : ℕ) (st : Stmt) (s t : State) (flow : Flow) → s.store.turns ≤ turns
      → run u w turns st s ≡ Gives flow t → t.store.turns ≤ s.store.turns
  statement_falls turns st s t flow few is =
      turns_of_gives (Unit {0}) 0 s.store flow t (run u w turns st (with_turns 0 s))
      (subst (λ r. Agrees (Unit {0}) s.store 0 r (run u w turns st (with_turns 0 s))) is (of_itself turns st s few))

  pub running_has_none : (turns : ℕ) (st : Stmt) (s : State) (store : Store) → s.store.turns ≤ turns
      → run u w turns st s ≡ Stops Running store → store.turns ≡ 0
  running_has_none turns st s store few is =
      turns_of_running (Unit {0}) 0 s.store store (run u w turns st (with_turns 0 s))
      (subst (λ r. Agrees (Unit {0}) s.store 0 r (run u w turns st (with_turns 0 s))) is (of_itself turns st s few))

-- ---- whole runs

out_of_ran : (r : Result Flow) → (ran r).out ≡ out_of r
out_of_ran (Gives flow s) = refl
out_of_ran (Stops outcome store) = refl

-- what a run comes to that agrees with another
stopped_same : (same : Type 0) (more : ℕ) (outcome : Outcome) (store : Store) (other : Result Flow)
    → StopsAlike same more outcome store other
    → (outcome ≡ Running → more ≡ 0) → (outcome ≡ Deep → same) → ran other ≡ ran (Stops outcome store)
stopped_same same more Running store other (used, out, alike) runs deep = ap ran (alike (runs refl))
stopped_same same more Deep store other (out, alike) runs deep = ap ran (alike (deep refl))
stopped_same same more Undefined store other alike runs deep = ap ran alike
stopped_same same more (Ended status) store other alike runs deep = ap ran alike

ran_same : (same : Type 0) (more : ℕ) (first : Store) (r other : Result Flow) → Agrees same first more r other
    → ((ran r).outcome ≡ Running → more ≡ 0) → ((ran r).outcome ≡ Deep → same) → ran other ≡ ran r
ran_same same more first (Gives flow s) other (is, follows) runs deep = ap ran is
ran_same same more first (Stops outcome store) other (out, alike) runs deep = stopped_same same more outcome store other alike runs deep

stopped_out : (same : Type 0) (more : ℕ) (outcome : Outcome) (store : Store) (other : Result Flow)
    → StopsAlike same more outcome store other → IsPrefix store.out (out_of other)
stopped_out same more Running store other (used, out, alike) = out
stopped_out same more Deep store other (out, alike) = out
stopped_out same more Undefined store other alike = rw alike (prefix_refl store.out)
stopped_out same more (Ended status) store other alike = rw alike (prefix_refl store.out)

ran_out : (same : Type 0) (more : ℕ) (first : Store) (r other : Result Flow) → Agrees same first more r other
    → IsPrefix (ran r).out (ran other).out
ran_out same more first (Gives flow s) other (is, follows) = rw is (prefix_refl s.store.out)
ran_out same more first (Stops outcome store) other (out, alike) =
    rw (out_of_ran other) (stopped_out same more outcome store other alike)

-- ---- the runs of a unit

-- what two runs of main come to, of which the second has more turns or a greater depth
module _ (u : Whole) (w : World) (depth : ℕ) (same : Type 0) (deeper : w.depth ≤ depth) (equal : same → depth ≡ w.depth) (turns more : ℕ) where
  main_agrees : (main : Func) → Agrees same (first_state u w turns main).store more
      (run u w turns main.body (first_state u w turns main))
      (run u (with_depth w depth) (turns + more) main.body (first_state u (with_depth w depth) (turns + more) main))
  main_agrees main = (run_agrees u w depth same deeper equal (turns + more) turns main.body).agrees
      (first_state u w turns main) more (le_refl turns) (le_refl (turns + more))

  main_same : (main : Option Func) → ((run_main u w turns main).outcome ≡ Running → more ≡ 0) → ((run_main u w turns main).outcome ≡ Deep → same)
      → run_main u (with_depth w depth) (turns + more) main ≡ run_main u w turns main
  main_same None runs deep = refl
  main_same (Some main) runs deep = ran_same same more (first_state u w turns main).store _ _ (main_agrees main) runs deep

  main_out : (main : Option Func) → IsPrefix (run_main u w turns main).out (run_main u (with_depth w depth) (turns + more) main).out
  main_out None = prefix_refl []
  main_out (Some main) = ran_out same more (first_state u w turns main).store _ _ (main_agrees main)

module _ (u : Whole) (layout : Layout) (input : List ℕ) where
  abbrev world : ℕ → World
  world depth = record { base = layout.cdata; input = input; depth = depth }

  by_sum : (n m : ℕ) → n ≤ m → n + (m - n) ≡ m
  by_sum n m le = omega (arith, le)

  pub more_turns_same : (depth turns more : ℕ) → turns ≤ more → (c_run u layout input depth turns).outcome ≢ Running
      → c_run u layout input depth more ≡ c_run u layout input depth turns
  unfolding c_run
  more_turns_same zero turns more le runs = refl
  more_turns_same (suc depth) turns more le runs =
      subst (λ n. run_main u (world (suc depth)) n (main_of u.functions) ≡ run_main u (world (suc depth)) turns (main_of u.functions)) (by_sum turns more le)
      (main_same u (world (suc depth)) (suc depth) (Unit {0}) (le_refl (suc depth)) (λ _. refl) turns (more - turns) (main_of u.functions) (λ is. absurd (runs is)) (λ _. tt))

  pub more_turns_out : (depth turns more : ℕ) → turns ≤ more
      → IsPrefix (c_run u layout input depth turns).out (c_run u layout input depth more).out
  unfolding c_run
  more_turns_out zero turns more le = prefix_refl []
  more_turns_out (suc depth) turns more le =
      subst (λ n. IsPrefix (run_main u (world (suc depth)) turns (main_of u.functions)).out (run_main u (world (suc depth)) n (main_of u.functions)).out) (by_sum turns more le)
      (main_out u (world (suc depth)) (suc depth) (Unit {0}) (le_refl (suc depth)) (λ _. refl) turns (more - turns) (main_of u.functions))

  is_running : Outcome → Bool
  is_running Running = true
  is_running outcome = false

  running_or_not : (outcome : Outcome) → (outcome ≡ Running) ⊎ (outcome ≢ Running)
  unfolding is_running
  running_or_not Running = inl refl
  running_or_not (Ended status) = inr (λ is. true≢false (sym (ap is_running is)))
  running_or_not Undefined = inr (λ is. true≢false (sym (ap is_running is)))
  running_or_not Deep = inr (λ is. true≢false (sym (ap is_running is)))

  pub more_turns_running : (depth turns more : ℕ) → turns ≤ more → (c_run u layout input depth more).outcome ≡ Running
      → (c_run u layout input depth turns).outcome ≡ Running
  more_turns_running depth turns more le is =
      ⊎_elim (λ runs. runs)
      (λ not. ap (λ r. r.outcome) (sym (more_turns_same depth turns more le not)) ∙ is)
      (running_or_not (c_run u layout input depth turns).outcome)

  no_more_turns : (turns : ℕ) → turns + 0 ≡ turns
  no_more_turns turns = omega arith

  pub more_depth_same : (depth deeper turns : ℕ) → depth ≤ deeper → (c_run u layout input depth turns).outcome ≢ Deep
      → c_run u layout input deeper turns ≡ c_run u layout input depth turns
  unfolding c_run
  more_depth_same zero deeper turns le deep = absurd (deep refl)
  more_depth_same (suc depth) zero turns le deep = absurd (omega (arith, le))
  more_depth_same (suc depth) (suc deeper) turns le deep =
      subst (λ n. run_main u (world (suc deeper)) n (main_of u.functions) ≡ run_main u (world (suc depth)) turns (main_of u.functions)) (no_more_turns turns)
      (main_same u (world (suc depth)) (suc deeper) ⊥ le (λ none. absurd none) turns 0 (main_of u.functions) (λ _. refl) (λ is. absurd (deep is)))

  pub more_depth_out : (depth deeper turns : ℕ) → depth ≤ deeper
      → IsPrefix (c_run u layout input depth turns).out (c_run u layout input deeper turns).out
  unfolding c_run
  more_depth_out zero deeper turns le = record { rest = (c_run u layout input deeper turns).out; is = refl }
  more_depth_out (suc depth) zero turns le = absurd (omega (arith, le))
  more_depth_out (suc depth) (suc deeper) turns le =
      subst (λ n. IsPrefix (run_main u (world (suc depth)) turns (main_of u.functions)).out (run_main u (world (suc deeper)) n (main_of u.functions)).out) (no_more_turns turns)
      (main_out u (world (suc depth)) (suc deeper) (⊥) le (λ none. absurd none) turns 0 (main_of u.functions))
