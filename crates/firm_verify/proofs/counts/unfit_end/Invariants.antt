use Rattle.std.proofs.Common.{◌<◌, ℕ, get_or}
use Rattle.firm_rules.specs.Lookups.{end_of}
use Rattle.firm_rules.specs.Rules.{EndFits}
use Rattle.firm_nodes.specs.Kept.{block_numbers}
use Rattle.firm_verify.proofs.counts.unfit_end.Given as goal

abbrev pub invariant-loop-block : goal.invariant-loop-block
invariant-loop-block l = (i : ℕ) → i < l.block-index → EndFits l.graph (end_of l.graph (get_or (block_numbers l.block-items) i 0))
