-- How a run begins: the first moment of the interpreter comes to the run of the unit.
use Rattle.std.proofs.Common.{◌≡◌, ℕ, zero, suc, ◌<◌, List, [], Option, Some, None, replicate, refl, sym, ap, ap₂, subst, ◌∙◌, arith}
use Rattle.std.specs.Prelude.{Result as Answer, Ok, Err, IfOk, IfErr, OnOk}
use Rattle.std.specs.Borrow.{Bor}
use Rattle.std.proofs.lemmas.Result.{IfOk-weaker}
use Rattle.cp_base.specs.declared.layout.Layout.{Layout}
use Rattle.cp_base.specs.declared.run_fault.RunFault.{RunFault}
use Rattle.cp_base.specs.Outside.{gained}
use Rattle.cp_base.proofs.Gains.{gained-nothing}
use Rattle.run_model.specs.declared.outcome.Outcome.{Outcome}
use Rattle.run_model.specs.declared.outcome.Outcome.TheVariants.{Undefined, Deep}
use Rattle.c_types.specs.declared.tree.Func.{Func}
use Rattle.c_types.specs.declared.tree.Stmt.{Stmt}
use Rattle.c_types.specs.declared.tree.Unit.{Unit as Whole}
use Rattle.c_meaning.specs.Steps.{Result, Gives, Stops, and_then, pure}
use Rattle.c_meaning.specs.Meaning.{Flow, run, exec, at_turn}
use Rattle.c_meaning.specs.Runs.{Ran, ran, main_of, first_state, run_main, c_run}
use Rattle.c_interpreter.specs.declared.frame.Task.TheVariants as task
use Rattle.c_interpreter.specs.declared.machine.Place.{Place}
use Rattle.c_interpreter.specs.Machine.{Finished, Configuration, state_of}
use Rattle.c_interpreter.specs.Leading.{ran_of, world_of}
use Rattle.c_interpreter.specs.Outputs.{start_of, first_moment, RunsTo}
use Rattle.c_interpreter.specs.Faults.{Refuses}

abbrev pub comes_to : Outcome → Ran
comes_to outcome = record { outcome = outcome; out = [] }

-- no call may be active
pub run_at_depth_none : (u : Whole) (layout : Layout) (input : List ℕ) (depth turns : ℕ) → depth ≡ 0 → c_run u layout input depth turns ≡ comes_to Deep
unfolding c_run
run_at_depth_none u layout input zero turns is = refl
run_at_depth_none u layout input (suc depth) turns is = absurd (omega (arith, is))

-- there is no main
pub run_without_main : (u : Whole) (layout : Layout) (input : List ℕ) (depth turns : ℕ) → 0 < depth → main_of u.functions ≡ None
    → c_run u layout input depth turns ≡ comes_to Undefined
unfolding c_run
run_without_main u layout input zero turns some none = absurd (omega (arith, some))
run_without_main u layout input (suc depth) turns some none = ap (run_main u _ turns) none

-- what a run without output comes to
pub same_outcome : (r : Ran) (outcome : Outcome) → r ≡ comes_to outcome → outcome ≡ r.outcome
same_outcome r outcome is = sym (ap (λ (x : Ran). x.outcome) is)

pub same_output : (r : Ran) (outcome : Outcome) (told : Option (List ℕ)) → r ≡ comes_to outcome → told ≡ gained told r.out
same_output r outcome told is = sym (ap (λ (x : Ran). gained told x.out) is ∙ gained-nothing told)

finished_ran : (r : Result Flow) → ran_of (and_then r (λ flow. pure (Finished flow))) ≡ ran r
finished_ran (Gives flow s) = refl
finished_ran (Stops outcome store) = refl

first_state_is : (place : Place) (main : Func) (turns : ℕ)
    → state_of [] (first_moment place.unit.now place.base main turns) ≡ first_state place.unit.now (world_of place) turns main
first_state_is place main turns = ap (λ n. record (state_of [] (first_moment place.unit.now place.base main turns)) { locals = replicate n None }) (omega arith)

-- the first moment
pub starts : (place : Place) (c : Configuration) (u : Whole) (layout : Layout) (input : List ℕ) (main : Func) (body : Bor Stmt) (depth turns : ℕ)
    → place.unit.now ≡ u → place.base ≡ layout.cdata → place.input.now ≡ input → place.depth ≡ depth → body.now ≡ main.body
    → 0 < depth → main_of u.functions ≡ Some main → c ≡ first_moment u layout.cdata main turns
    → start_of place c (task.Stmt body) ≡ c_run u layout input depth turns
unfolding c_run
starts place c u layout input main body zero turns unit_is base_is input_is depth_is body_is some main_is c_is = absurd (omega (arith, some))
starts place c u layout input main body (suc depth) turns unit_is base_is input_is depth_is body_is some main_is c_is =
    let v = place.unit.now in
    let w = world_of place in
    ap (λ x. start_of place x (task.Stmt body)) (c_is ∙ ap₂ (λ u base. first_moment u base main turns) (sym unit_is) (sym base_is))
    ∙ finished_ran (exec v w (at_turn v w turns) body.now (state_of [] (first_moment v place.base main turns)))
    ∙ ap₂ (λ st s. ran (exec v w (at_turn v w turns) st s)) body_is (first_state_is place main turns)
    ∙ sym (ap (run_main v w turns) (ap (λ (x : Whole). main_of x.functions) unit_is ∙ main_is))
    ∙ ap₂ (λ base depth. run_main v (record { base = base; input = place.input.now; depth = depth }) turns (main_of v.functions)) base_is depth_is
    ∙ ap₂ (λ (v : Whole) input. run_main v (record { base = layout.cdata; input = input; depth = suc depth }) turns (main_of v.functions)) unit_is input_is

-- ---- the answer

pub answer : {E : Type 0} (r : Answer Outcome E) (run other : Ran) (old new : Option (List ℕ)) → run ≡ other
    → IfOk r (λ outcome. RunsTo run outcome old new) → IfOk r (λ outcome. RunsTo other outcome old new)
answer r run other old new is h = subst (λ x. IfOk r (λ outcome. RunsTo x outcome old new)) is h

pub fault : (r : Answer Outcome RunFault) (run other : Ran) (old new : Option (List ℕ)) (faults_old faults_new : ℕ) → run ≡ other
    → IfErr r (λ f. Refuses f old new faults_old faults_new run.out) → IfErr r (λ f. Refuses f old new faults_old faults_new other.out)
fault r run other old new faults_old faults_new is h = subst (λ (x : Ran). IfErr r (λ f. Refuses f old new faults_old faults_new x.out)) is h

pub answer_outcome : {E : Type 0} (r : Answer Outcome E) (run : Ran) (old new : Option (List ℕ))
    → IfOk r (λ outcome. RunsTo run outcome old new) → IfOk r (λ outcome. outcome ≡ run.outcome)
answer_outcome r run old new h = IfOk-weaker r _ _ (λ outcome k. k.same) h

pub answer_output : {E : Type 0} (r : Answer Outcome E) (run : Ran) (old new : Option (List ℕ))
    → IfOk r (λ outcome. RunsTo run outcome old new) → OnOk r (new ≡ gained old run.out)
answer_output (Ok outcome) run old new h = h.told
answer_output (Err e) run old new h = tt
