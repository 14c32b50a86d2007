use Rattle.std.proofs.Common.{◌≡◌, length}
use Rattle.graph_tests.proofs.uses.grown.Given as goal

abbrev pub invariant-loop-number : goal.invariant-loop-number
invariant-loop-number l = length l.rows.rows ≡ 2
