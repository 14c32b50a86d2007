use Rattle.std.proofs.Common.{◌≡◌, ◌-◌, ℕ, suc, false, length, get_or}
use Rattle.firm_tables.proofs.named.widen.Given as goal

abbrev pub invariant-loop-flags : goal.invariant-loop-flags
invariant-loop-flags l = (m : ℕ) → get_or l.flags.items m false ≡ get_or l.fn.flags.items m false

abbrev pub decreases-loop-flags : goal.decreases-loop-flags
decreases-loop-flags l = suc l.node - length l.flags.items
