-- The map and what is noted, of the names that begin before this node.
use Rattle.c_names.proofs.EarlierLaws.{AreLatest, AreNoted}
use Rattle.c_names.proofs.declarations.put_all.Given as goal

abbrev pub invariant-loop-number : goal.invariant-loop-number
invariant-loop-number l = record {
  latest : AreLatest l.scoped l.number l.latest;
  noted : AreNoted l.scoped l.number l.found;
}
