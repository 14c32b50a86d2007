use Rattle.std.proofs.Common.{◌<◌, ◌≤◌, ◌+◌, ℕ, get_or}
use Rattle.firm_rules.specs.Lookups.{preds_of}
use Rattle.firm_nodes.specs.Kept.{block_numbers}
use Rattle.firm_verify.specs.Tables.{HasOutside}
use Rattle.firm_verify.proofs.loops.has_side_entry.Given as goal

abbrev pub invariant-loop-place : goal.invariant-loop-place
invariant-loop-place l = (k : ℕ) → l.low ≤ k → k < l.place → HasOutside l.graph l.low l.high (preds_of l.graph (get_or (block_numbers l.order) (k + 1) 0)) → ⊥
