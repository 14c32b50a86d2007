use Rattle.std.proofs.Common.{arith, subst, ◌≡◌, None, Some}
use Rattle.c_meaning.specs.Runs.{main_of}
use Rattle.run_model.specs.declared.outcome.Outcome.TheVariants.{Undefined, Deep}
use Rattle.c_interpreter.proofs.Starts.{run_at_depth_none, run_without_main, same_outcome, same_output}
use Rattle.c_interpreter.proofs.unit.interpret.Goals as goal

pub returns-then-depth-eq0-clause-outcome : goal.returns-then-depth-eq0-clause-outcome
returns-then-depth-eq0-clause-outcome g c = same_outcome _ Deep (run_at_depth_none c.args.unit.now c.args.layout.now c.args.input.now c.args.depth c.args.turns (omega (arith, c.if-depth-eq0.true)))

pub returns-then-depth-eq0-clause-written : goal.returns-then-depth-eq0-clause-written
returns-then-depth-eq0-clause-written g c = same_output _ Deep _ (run_at_depth_none c.args.unit.now c.args.layout.now c.args.input.now c.args.depth c.args.turns (omega (arith, c.if-depth-eq0.true)))

pub run_main-requires-clause-main : goal.run_main-requires-clause-main
run_main-requires-clause-main g c = subst (λ fs. main_of fs ≡ Some c.in-Some.main.now) c.as_slice.ensures c.in-Some.ensures

pub returns-in-None-clause-outcome : goal.returns-in-None-clause-outcome
returns-in-None-clause-outcome g c =
    same_outcome _ Undefined (run_without_main c.args.unit.now c.args.layout.now c.args.input.now c.args.depth c.args.turns (omega (arith, c.if-depth-eq0.false))
    (subst (λ fs. main_of fs ≡ None) c.as_slice.ensures c.in-None.ensures))

pub returns-in-None-clause-written : goal.returns-in-None-clause-written
returns-in-None-clause-written g c =
    same_output _ Undefined _ (run_without_main c.args.unit.now c.args.layout.now c.args.input.now c.args.depth c.args.turns (omega (arith, c.if-depth-eq0.false))
    (subst (λ fs. main_of fs ≡ None) c.as_slice.ensures c.in-None.ensures))
