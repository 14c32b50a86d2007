-- The names that begin before this node have their first declarations.
use Rattle.c_objects.specs.Firsts.{AreFirstsBefore}
use Rattle.c_objects.proofs.firsts.put_firsts.Given as goal

abbrev pub invariant-loop-number : goal.invariant-loop-number
invariant-loop-number l = AreFirstsBefore l.scoped l.number l.found
