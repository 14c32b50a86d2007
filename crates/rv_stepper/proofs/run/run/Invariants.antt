use Rattle.std.proofs.Common.{◌<◌, ◌≤◌, length}
use Rattle.cp_base.specs.Outside.{last_count}
use Rattle.rv_stepper.specs.Output.{SoFar}
use Rattle.rv_stepper.proofs.run.run.Given as goal

abbrev pub invariant-loop-left : goal.invariant-loop-left
invariant-loop-left g l =
    let faults = g.O.Sink.faults in
    let written = g.O.Sink.written in
    record {
      count : faults l.fn.out ≤ faults l.out;
      bound : faults l.fn.out ≤ last_count → faults l.out ≤ last_count;
      room : length l.waiting < 4096;
      so_far : SoFar (written l.fn.out) (written l.out) l.code l.input l.fn.state l.state l.waiting l.fn.steps l.left;
    }

abbrev pub decreases-loop-left : goal.decreases-loop-left
decreases-loop-left g l = l.left
