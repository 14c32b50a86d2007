-- The last declarators among the nodes so far.
use Rattle.std.proofs.Common.{◌≡◌, ◌<◌, ℕ, length}
use Rattle.c_nodes.specs.Parents.{nodes_in}
use Rattle.c_nodes.proofs.DeclaratorLaws.{WholeSoFar}
use Rattle.c_nodes.proofs.declarators.put_wholes.Given as goal

abbrev pub invariant-loop-number : goal.invariant-loop-number
invariant-loop-number l = record {
  so_far : (i : ℕ) → i < length l.nodes → WholeSoFar (nodes_in l.nodes) l.number l.found i;
  long : length l.found ≡ length l.nodes;
}
