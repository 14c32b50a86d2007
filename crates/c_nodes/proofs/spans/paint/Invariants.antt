-- The places so far are painted.
use Rattle.std.proofs.Common.{◌≡◌, ◌⊎◌, ◌+◌, ◌≤◌}
use Rattle.c_nodes.specs.Spans.{painted_from}
use Rattle.c_nodes.proofs.spans.paint.Given as goal

abbrev pub invariant-loop-place : goal.invariant-loop-place
invariant-loop-place l = record {
  painted : l.found ≡ painted_from 0 l.from l.place l.number l.fn.found;
  low : l.from ≤ l.place;
  high : (l.place ≡ l.from) ⊎ (l.place ≤ l.to + 1);
}
