use Rattle.std.proofs.Common.{◌<◌, ℕ, get_or}
use Rattle.firm_nodes.specs.Kept.{block_numbers}
use Rattle.firm_verify.specs.Tables.{NoBadLoop}
use Rattle.firm_verify.proofs.loops.check_loops.Given as goal

abbrev pub invariant-loop-head : goal.invariant-loop-head
invariant-loop-head l = (i : ℕ) → i < l.head-index → NoBadLoop l.graph (get_or (block_numbers l.head-items) i 0)
