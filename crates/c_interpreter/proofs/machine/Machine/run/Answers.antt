use Rattle.std.proofs.Common.{le_trans}
use Rattle.cp_base.specs.declared.run_fault.RunFault.TheVariants.{WriteFault, OutOfMemory}
use Rattle.c_interpreter.specs.Machine.{seen}
use Rattle.c_interpreter.specs.Outputs.{start_of}
use Rattle.c_interpreter.proofs.OutputLaws.{stopped_at, refused, refused_is_not_ok, starved, broken, next_way}
use Rattle.c_interpreter.proofs.machine.Machine.run.Goals as goal

pub returns-in-Stop-clause-ok : goal.returns-in-Stop-clause-ok
returns-in-Stop-clause-ok g c =
    stopped_at c.args.place.now (start_of c.args.place.now (seen c.args.self.now) c.args.start) c.args.self.now.turns (g.O.Sink.written c.args.out.now)
    (seen c.rounds.self) c.rounds.task c.in-Stop.outcome _ _ c.in-Stop.is c.rounds.invariant.way c.in_ok-flush.ensures.ok

pub returns-in_err-flush-clause-err : goal.returns-in_err-flush-clause-err
returns-in_err-flush-clause-err g c =
    refused c.from_residual.result _ WriteFault c.from_residual.ensures.1
    (broken c.args.place.now (start_of c.args.place.now (seen c.args.self.now) c.args.start) c.args.self.now.turns (g.O.Sink.written c.args.out.now)
    (seen c.rounds.self) c.rounds.task _ _ _ _ _ c.rounds.invariant.way c.in_err-flush.ensures.err c.rounds.invariant.count c.in_err-flush.ensures.failed)

pub returns-in_err-task : goal.returns-in_err-task
returns-in_err-task g c = record {
  count = c.rounds.invariant.count;
  bound = c.rounds.invariant.bound;
  ok = refused_is_not_ok c.from_residual-in_err-task.result _ OutOfMemory c.from_residual-in_err-task.ensures.1;
  err = refused c.from_residual-in_err-task.result _ OutOfMemory c.from_residual-in_err-task.ensures.1
      (starved c.args.place.now (start_of c.args.place.now (seen c.args.self.now) c.args.start) c.args.self.now.turns (g.O.Sink.written c.args.out.now)
      (seen c.rounds.self) c.rounds.task _ (g.O.Sink.faults c.args.out.now) (g.O.Sink.faults c.rounds.out) c.rounds.invariant.way);
}

pub returns-in_err-hand_on : goal.returns-in_err-hand_on
returns-in_err-hand_on g c = record {
  count = le_trans c.rounds.invariant.count c.in_err-hand_on.ensures.count;
  bound = λ few. c.in_err-hand_on.ensures.bound (c.rounds.invariant.bound few);
  ok = refused_is_not_ok c.from_residual-in_err-hand_on.result _ WriteFault c.from_residual-in_err-hand_on.ensures.1;
  err = refused c.from_residual-in_err-hand_on.result _ WriteFault c.from_residual-in_err-hand_on.ensures.1
      (broken c.args.place.now (start_of c.args.place.now (seen c.args.self.now) c.args.start) c.args.self.now.turns (g.O.Sink.written c.args.out.now)
      (seen c.round.new.self) c.in_ok-task.task _ _ _ _ _
      (next_way c.args.place.now (start_of c.args.place.now (seen c.args.self.now) c.args.start) c.args.self.now.turns (g.O.Sink.written c.args.out.now)
      (seen c.rounds.self) (seen c.round.new.self) c.rounds.task c.in_ok-task.task _ c.rounds.invariant.way c.in_ok-task.ensures)
      c.in_err-hand_on.ensures.err c.rounds.invariant.count c.in_err-hand_on.ensures.failed);
}
