-- The spans from this one on are painted.
use Rattle.std.proofs.Common.{◌≡◌, ◌≤◌, length, map, drop}
use Rattle.std.specs.List.{range_with_len}
use Rattle.c_nodes.proofs.SpanLaws.{from_index}
use Rattle.c_nodes.proofs.spans.paint_all.Given as goal

abbrev pub invariant-loop-left : goal.invariant-loop-left
invariant-loop-left l = record {
  painted : l.found ≡ map (from_index l.left (drop l.left l.spans)) (range_with_len 0 (length l.fn.found));
  long : length l.found ≡ length l.fn.found;
  within : l.left ≤ length l.spans;
}

abbrev pub decreases-loop-left : goal.decreases-loop-left
decreases-loop-left l = l.left
