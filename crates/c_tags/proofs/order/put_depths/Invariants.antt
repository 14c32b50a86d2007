-- The depths of the nodes from this one on.
use Rattle.std.proofs.Common.{◌≡◌, ◌<◌, ◌≤◌, ℕ, length}
use Rattle.c_nodes.specs.Parents.{nodes_in}
use Rattle.c_tags.specs.Order.{IsDeep}
use Rattle.c_tags.proofs.order.put_depths.Given as goal

abbrev pub invariant-loop-number : goal.invariant-loop-number
invariant-loop-number l = record {
  long : length l.depths ≡ length l.nodes;
  low : l.number ≤ length l.nodes;
  deep : (n : ℕ) → l.number ≤ n → n < length l.nodes → IsDeep (nodes_in l.nodes) l.depths n;
}

abbrev pub decreases-loop-number : goal.decreases-loop-number
decreases-loop-number l = l.number
