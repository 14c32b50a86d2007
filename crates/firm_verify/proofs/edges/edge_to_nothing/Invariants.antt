use Rattle.std.proofs.Common.{◌<◌, ℕ, get_or}
use Rattle.firm_nodes.specs.Kept.{block_numbers}
use Rattle.firm_verify.specs.Tables.{EdgesWithin}
use Rattle.firm_verify.proofs.edges.edge_to_nothing.Given as goal

abbrev pub invariant-loop-block : goal.invariant-loop-block
invariant-loop-block l = (i : ℕ) → i < l.block-index → EdgesWithin l.graph (get_or (block_numbers l.block-items) i 0)
