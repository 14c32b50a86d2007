use Rattle.std.proofs.Common.{◌≤◌}
use Rattle.cp_base.specs.Outside.{last_count}
use Rattle.c_interpreter.specs.Machine.{seen}
use Rattle.c_interpreter.specs.Outputs.{start_of, IsOnWay, rounds_left}
use Rattle.c_interpreter.proofs.machine.Machine.run.Given as goal

abbrev pub invariant-rounds : goal.invariant-rounds
invariant-rounds g l = record {
  count : g.O.Sink.faults l.fn.out ≤ g.O.Sink.faults l.out;
  bound : g.O.Sink.faults l.fn.out ≤ last_count → g.O.Sink.faults l.out ≤ last_count;
  way : IsOnWay l.place (start_of l.place (seen l.fn.self) l.fn.start) l.fn.self.turns (g.O.Sink.written l.fn.out) (seen l.self) l.task (g.O.Sink.written l.out);
}

abbrev pub decreases-rounds : goal.decreases-rounds
decreases-rounds g l = rounds_left l.self.turns l.task
