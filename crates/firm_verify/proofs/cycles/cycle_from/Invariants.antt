use Rattle.firm_verify.specs.Marks.{AreMarks, NoneMore, weight}
use Rattle.std.proofs.Common.{◌≤◌, get_or}
use Rattle.firm_verify.proofs.cycles.cycle_from.Given as goal

abbrev pub invariant-loop-left : goal.invariant-loop-left
invariant-loop-left l = AreMarks l.graph l.left.items l.path.items × (NoneMore l.fn.left.items l.left.items × (get_or l.left.items l.start 0 ≤ 1))

abbrev pub decreases-loop-left : goal.decreases-loop-left
decreases-loop-left l = weight l.left.items
