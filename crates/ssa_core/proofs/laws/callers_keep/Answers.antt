use Rattle.ssa_core.proofs.Meaning.{nothing_holds}
use Rattle.ssa_core.proofs.Editing.{settled_edited, settled_replaced}
use Rattle.ssa_core.proofs.laws.callers_keep.Goals as goal

pub returns-clause-nothing : goal.returns-clause-nothing
returns-clause-nothing g c = λ modes s. nothing_holds modes s

pub returns-clause-edits : goal.returns-clause-edits
returns-clause-edits g c = λ modes k s t edit settled. settled_edited modes k s t edit settled

pub returns-clause-replacing : goal.returns-clause-replacing
returns-clause-replacing g c = λ modes k s t old to decide only to_there to_alike r settled.
    settled_replaced modes k s t old to decide only to_there to_alike r settled
