use Rattle.std.proofs.Common.{◌≡◌, ◌<◌, ℕ, get_or}
use Rattle.firm_verify.proofs.cycles.open_operand.Given as goal

abbrev pub invariant-loop-operand : goal.invariant-loop-operand
invariant-loop-operand l = (i : ℕ) → i < l.operand-index → get_or l.left (get_or l.operand-items i 0) 0 ≡ 0
