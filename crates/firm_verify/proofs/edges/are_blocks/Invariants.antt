use Rattle.std.proofs.Common.{◌<◌, ℕ, get_or}
use Rattle.firm_rules.specs.Lookups.{IsBlock}
use Rattle.firm_verify.proofs.edges.are_blocks.Given as goal

abbrev pub invariant-loop-block : goal.invariant-loop-block
invariant-loop-block l = (i : ℕ) → i < l.block-index → IsBlock l.graph (get_or l.blocks i 0)
