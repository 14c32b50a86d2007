-- The words of the nodes before this one, and the names that begin before it.
use Rattle.c_names.specs.Names.{AreBegun, AreWords}
use Rattle.c_names.proofs.names.put_names.Given as goal

abbrev pub invariant-loop-number : goal.invariant-loop-number
invariant-loop-number l = record {
  words : AreWords l.scoped l.number l.words.items;
  found : AreBegun l.scoped l.number l.found;
}
