use Rattle.std.proofs.Common.{◌≡◌, ◌-◌, ℕ, suc, length, get_or}
use Rattle.firm_verify.proofs.lists.set_at.Given as goal

abbrev pub invariant-loop-filler : goal.invariant-loop-filler
invariant-loop-filler g l = (other : ℕ) → get_or l.table.items other l.filler ≡ get_or l.fn.table.items other l.filler

abbrev pub decreases-loop-filler : goal.decreases-loop-filler
decreases-loop-filler g l = suc l.index - length l.table.items
