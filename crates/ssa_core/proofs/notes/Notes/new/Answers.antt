use Rattle.std.proofs.Common.{rules}
use Rattle.ssa_core.proofs.Lookups.{no_indexes_at}
use Rattle.ssa_core.proofs.notes.Notes.new.Goals as goal

pub invariant_of-result : goal.invariant_of-result
invariant_of-result g c = no_indexes_at _ _ _ _ (search rules) (search rules) (search rules) (search rules)
