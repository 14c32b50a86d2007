use Rattle.std.proofs.Common.{◌≡◌, ◌≤◌, take}
use Rattle.firm_uses.specs.Counts.{times}
use Rattle.firm_verify.proofs.edges.pred_count.Given as goal

abbrev pub invariant-loop-pred : goal.invariant-loop-pred
invariant-loop-pred l = (l.count ≤ l.pred-index) × (l.count ≡ times l.from (take l.pred-index l.preds))
