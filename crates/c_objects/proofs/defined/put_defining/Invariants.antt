-- Noted, with the names of the nodes before this one.
use Rattle.c_objects.specs.Objects.{AreDefiningBefore}
use Rattle.c_objects.proofs.defined.put_defining.Given as goal

abbrev pub invariant-loop-number : goal.invariant-loop-number
invariant-loop-number l = AreDefiningBefore l.scoped l.number l.defining
