use Rattle.std.proofs.Common.{◌∙◌, arith}
use Rattle.cp_base.proofs.Gains.{on_err}
use Rattle.rv_stepper.proofs.RunSteps.{SoFar-went, SoFar-wrote, SoFar-moved, SoFar-failed, failed_err, finished_ended, finished_stuck, finished_running}
use Rattle.rv_stepper.proofs.run.run.Goals as goal
use Rattle.rv_stepper.proofs.run.run.Goals.{in-Went, in-Wrote}

pub returns-in-Ended-clause-ok : goal.returns-in-Ended-clause-ok
returns-in-Ended-clause-ok g c = finished_ended c.step.new.self c.in-Ended.status _ c.answer.result c.loop-left.invariant.so_far c.loop-left-test.true c.in-Ended.ensures.step c.answer.ensures.ok

pub returns-in-Ended-clause-err : goal.returns-in-Ended-clause-err
returns-in-Ended-clause-err g c = failed_err _ c.answer.result c.loop-left.invariant.so_far c.answer.ensures.err

pub returns-in-Stuck-clause-ok : goal.returns-in-Stuck-clause-ok
returns-in-Stuck-clause-ok g c = finished_stuck c.step.new.self _ c.answer-in-Stuck.result c.loop-left.invariant.so_far c.loop-left-test.true c.in-Stuck.ensures.step c.answer-in-Stuck.ensures.ok

pub returns-in-Stuck-clause-err : goal.returns-in-Stuck-clause-err
returns-in-Stuck-clause-err g c = failed_err _ c.answer-in-Stuck.result c.loop-left.invariant.so_far c.answer-in-Stuck.ensures.err

pub returns-clause-ok : goal.returns-clause-ok
returns-clause-ok g c = finished_running _ c.answer-2.result c.loop-left.invariant.so_far c.loop-left-test.false c.answer-2.ensures.ok

pub returns-clause-err : goal.returns-clause-err
returns-clause-err g c = failed_err _ c.answer-2.result c.loop-left.invariant.so_far c.answer-2.ensures.err

pub returns-in_err-flush_at-clause-err : goal.returns-in_err-flush_at-clause-err
returns-in_err-flush_at-clause-err g c = elim c.match-step.branch [
  | in-Went w ↦ on_err c.from_residual.result (SoFar-failed _ (SoFar-went c.step.new.self c.match-step.waiting c.loop-left.invariant.so_far c.loop-left-test.true w.in-Went.ensures.step w.in-Went.ensures.kept w.waiting-is) c.in_err-flush_at.ensures.err)
  | in-Wrote w ↦ on_err c.from_residual.result (SoFar-failed _ (SoFar-wrote c.step.new.self w.in-Wrote.byte c.match-step.waiting c.loop-left.invariant.so_far c.loop-left-test.true w.in-Wrote.ensures.step w.in-Wrote.ensures.kept (w.waiting-is ∙ w.push.ensures)) c.in_err-flush_at.ensures.err)
]

pub loop-left-preserved : goal.loop-left-preserved
loop-left-preserved g c = record {
  count = omega (arith, c.loop-left.invariant.count, c.flush_at.ensures.count);
  bound = λ h. c.flush_at.ensures.bound (c.loop-left.invariant.bound h);
  room = c.in_ok-flush_at.ensures.room;
  so_far = elim c.match-step.branch [
    | in-Went w ↦ SoFar-moved _ _ (SoFar-went c.step.new.self c.match-step.waiting c.loop-left.invariant.so_far c.loop-left-test.true w.in-Went.ensures.step w.in-Went.ensures.kept w.waiting-is) c.in_ok-flush_at.ensures.ok
    | in-Wrote w ↦ SoFar-moved _ _ (SoFar-wrote c.step.new.self w.in-Wrote.byte c.match-step.waiting c.loop-left.invariant.so_far c.loop-left-test.true w.in-Wrote.ensures.step w.in-Wrote.ensures.kept (w.waiting-is ∙ w.push.ensures)) c.in_ok-flush_at.ensures.ok
  ];
}
