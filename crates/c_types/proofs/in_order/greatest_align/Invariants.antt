use Rattle.std.proofs.Common.{◌≡◌, ◌≤◌, drop, max}
use Rattle.c_types.specs.InOrder.{greatest_align}
use Rattle.c_types.proofs.in_order.greatest_align.Given as goal

-- the greatest so far, and that of what is left
abbrev pub invariant-loop-measure : goal.invariant-loop-measure
invariant-loop-measure l = record {
  greatest : max l.align (greatest_align (drop l.measure-index l.measures)) ≡ greatest_align l.measures;
  some : 1 ≤ l.align;
}
