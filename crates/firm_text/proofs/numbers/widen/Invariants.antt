use Rattle.std.proofs.Common.{◌≡◌, ◌-◌, ℕ, suc, length, get_or}
use Rattle.firm_text.proofs.numbers.widen.Given as goal

abbrev pub invariant-loop-places : goal.invariant-loop-places
invariant-loop-places l = (b : ℕ) → get_or l.places.items b l.none ≡ get_or l.fn.places.items b l.none

abbrev pub decreases-loop-places : goal.decreases-loop-places
decreases-loop-places l = suc l.block - length l.places.items
