use Rattle.std.proofs.Common.{◌≤◌, length}
use Rattle.cp_base.specs.Outside.{last_count}
use Rattle.cp_base.proofs.Gains.{HasTaken}
use Rattle.cp_base.proofs.sink.put_all.Given as goal

-- the sink has gained what stands before the rest
abbrev pub invariant-loop-rest : goal.invariant-loop-rest
invariant-loop-rest g l =
    let faults = g.S.Sink.faults in
    let written = g.S.Sink.written in
    record {
      count : faults l.fn.sink ≤ faults l.sink;
      bound : faults l.fn.sink ≤ last_count → faults l.sink ≤ last_count;
      taken : HasTaken (written l.fn.sink) (written l.sink) l.piece l.rest;
    }

abbrev pub decreases-loop-rest : goal.decreases-loop-rest
decreases-loop-rest g l = length l.rest
