use Rattle.std.proofs.Common.{◌<◌, ℕ, get_or}
use Rattle.firm_rules.specs.Rules.{giver}
use Rattle.firm_verify.specs.Memory.{LeavesOnly}
use Rattle.firm_verify.proofs.takes.each_takes.Given as goal

abbrev pub invariant-loop-index : goal.invariant-loop-index
invariant-loop-index l = (i : ℕ) → i < l.index → LeavesOnly l.graph (get_or l.preds i 0) (giver l.graph (get_or l.operands i 0))
