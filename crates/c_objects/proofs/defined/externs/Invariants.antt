-- The nodes before this one are told.
use Rattle.std.proofs.Common.{◌≡◌, ◌<◌, ℕ, false, get_or, length}
use Rattle.std.specs.Prelude.{codes}
use Rattle.c_typing.specs.Places.{node_at, says}
use Rattle.c_nodes.specs.Parents.{nodes_in}
use Rattle.c_objects.proofs.defined.externs.Given as goal

abbrev pub invariant-loop-number : goal.invariant-loop-number
invariant-loop-number l = record {
  long : length l.found.items ≡ l.number;
  are : (i : ℕ) → i < l.number → get_or l.found.items i false ≡ says (nodes_in l.scoped) (codes "extern") (node_at (nodes_in l.scoped) i);
}
