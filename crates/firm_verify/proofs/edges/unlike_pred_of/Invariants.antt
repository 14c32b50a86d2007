use Rattle.std.proofs.Common.{◌<◌, ℕ, get_or}
use Rattle.firm_uses.specs.Counts.{times}
use Rattle.firm_rules.specs.Lookups.{end_of, targets}
use Rattle.firm_verify.proofs.edges.unlike_pred_of.Given as goal

abbrev pub invariant-loop-from : goal.invariant-loop-from
invariant-loop-from l = (i : ℕ) → i < l.from-index → 0 < times l.to.number (targets (end_of l.graph (get_or l.from-items i 0)))
