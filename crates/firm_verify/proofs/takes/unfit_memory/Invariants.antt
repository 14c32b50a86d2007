use Rattle.std.proofs.Common.{◌<◌, ℕ, get_or}
use Rattle.firm_nodes.specs.Kept.{block_numbers}
use Rattle.firm_rules.specs.Rules.{MemoryFits}
use Rattle.firm_verify.proofs.takes.unfit_memory.Given as goal

abbrev pub invariant-loop-block : goal.invariant-loop-block
invariant-loop-block l = (i : ℕ) → i < l.block-index → MemoryFits l.graph (get_or (block_numbers l.block-items) i 0)
