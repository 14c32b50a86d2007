use Rattle.std.proofs.Common.{◌<◌, ◌⊎◌, ℕ, get_or}
use Rattle.firm_rules.specs.Lookups.{rank}
use Rattle.firm_verify.proofs.loops.has_outside.Given as goal

abbrev pub invariant-loop-block : goal.invariant-loop-block
invariant-loop-block l = (i : ℕ) → i < l.block-index → (rank l.graph (get_or l.blocks i 0) < l.low) ⊎ (l.high < rank l.graph (get_or l.blocks i 0)) → ⊥
