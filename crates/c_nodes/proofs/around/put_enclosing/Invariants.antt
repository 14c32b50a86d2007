-- The innermost among the nodes from here on.
use Rattle.std.proofs.Common.{◌≡◌, ◌<◌, ◌≤◌, ℕ, length}
use Rattle.c_nodes.specs.Parents.{nodes_in}
use Rattle.c_nodes.proofs.AroundLaws.{AroundFrom}
use Rattle.c_nodes.proofs.around.put_enclosing.Given as goal

abbrev pub invariant-loop-number : goal.invariant-loop-number
invariant-loop-number l = record {
  from_here : (i : ℕ) → i < length l.nodes → AroundFrom l.kinds (nodes_in l.nodes) l.number l.found i;
  long : length l.found ≡ length l.nodes;
  within : l.number ≤ length l.nodes;
}

abbrev pub decreases-loop-number : goal.decreases-loop-number
decreases-loop-number l = l.number
