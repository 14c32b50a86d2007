use Rattle.std.proofs.Common.{◌-◌, suc, length}
use Rattle.firm_tables.proofs.members.note.Given as goal

abbrev pub decreases-loop-places : goal.decreases-loop-places
decreases-loop-places l = suc l.node - length l.places.items
