use Rattle.std.proofs.Common.{◌+◌, ◌-◌, length}
use Rattle.ssa_core.specs.Known.{view}
use Rattle.ssa_core.proofs.Finding.{Going}
use Rattle.ssa_core.proofs.work.Work.go_back.Given as goal

abbrev pub invariant-loop-self : goal.invariant-loop-self
invariant-loop-self g l = Going (view l.self (g.T.SsaTarget.shape l.target) l.var) l.block l.trail.items l.at

abbrev pub decreases-loop-self : goal.decreases-loop-self
decreases-loop-self g l = (length l.self.sealed + 1) - length l.trail.items
