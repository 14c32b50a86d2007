-- The nodes from this one on are told.
use Rattle.std.proofs.Common.{◌≤◌, length}
use Rattle.c_contexts.specs.Contexts.{AreCalledFrom}
use Rattle.c_contexts.proofs.calls.put_called.Given as goal

abbrev pub invariant-loop-number : goal.invariant-loop-number
invariant-loop-number l = record {
  told : AreCalledFrom l.nodes l.number l.found;
  within : l.number ≤ length l.nodes;
}

abbrev pub decreases-loop-number : goal.decreases-loop-number
decreases-loop-number l = l.number
