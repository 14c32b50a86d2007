-- The counts of the nodes up to this one, of which the last is at hand.
use Rattle.c_locals.proofs.NumberLaws.{AreSoFar}
use Rattle.c_locals.proofs.counts.automatic_counts.Given as goal

abbrev pub invariant-loop-number : goal.invariant-loop-number
invariant-loop-number l = AreSoFar l.nodes l.number l.counts.items l.count
