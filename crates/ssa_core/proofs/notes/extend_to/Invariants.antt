use Rattle.std.proofs.Common.{◌-◌, ◌+◌, length}
use Rattle.ssa_core.specs.Kept.{IsExtended}
use Rattle.ssa_core.proofs.notes.extend_to.Given as goal

abbrev pub invariant-loop-alloc : goal.invariant-loop-alloc
invariant-loop-alloc l = IsExtended l.initial.states.items l.states.items

abbrev pub decreases-loop-alloc : goal.decreases-loop-alloc
decreases-loop-alloc l = (l.block + 1) - length l.states.items
