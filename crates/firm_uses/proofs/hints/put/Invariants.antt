use Rattle.std.proofs.Common.{◌-◌, suc, length}
use Rattle.firm_uses.proofs.hints.put.Given as goal

abbrev pub decreases-loop-places : goal.decreases-loop-places
decreases-loop-places l = suc l.slot - length l.places.items
