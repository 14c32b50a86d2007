-- The nodes before this one are told, and the objects among them are counted.
use Rattle.std.proofs.Common.{◌≡◌, length}
use Rattle.c_nodes.specs.Parents.{nodes_in}
use Rattle.c_names.specs.Denoted.{IsDerived}
use Rattle.c_objects.proofs.ObjectLaws.{AreNumbered}
use Rattle.c_objects.proofs.numbers.numbers_of_firsts.Given as goal

abbrev pub invariant-loop-number : goal.invariant-loop-number
invariant-loop-number l = (d : IsDerived l.scoped) (nodes : length (nodes_in l.scoped) ≡ length l.scoped) → AreNumbered l.scoped d nodes l.number l.found.items l.count
