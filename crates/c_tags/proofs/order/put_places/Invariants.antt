-- The nodes before this one have their places.
use Rattle.std.proofs.Common.{◌≡◌, ◌<◌, ℕ, get_or, length}
use Rattle.c_tags.specs.Order.{order_in}
use Rattle.c_tags.proofs.order.put_places.Given as goal

abbrev pub invariant-loop-number : goal.invariant-loop-number
invariant-loop-number l = record {
  long : length l.order ≡ length l.nodes;
  filled : (i : ℕ) → i < length l.nodes → get_or (order_in l.nodes) i 0 < l.number → get_or l.order i 0 ≡ get_or (order_in l.nodes) i 0;
}
