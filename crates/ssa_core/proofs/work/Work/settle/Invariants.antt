use Rattle.std.proofs.Common.{◌≡◌, ◌+◌, ◌-◌, length}
use Rattle.ssa_core.specs.Steps.{free_places}
use Rattle.ssa_core.proofs.Settling.{Settling}
use Rattle.ssa_core.proofs.work.Work.settle.Given as goal

abbrev pub invariant-loop-made : goal.invariant-loop-made
invariant-loop-made g l = record {
  settling : Settling g.T.SsaTarget.mode_of l.var l.initial.self l.self (g.T.SsaTarget.shape l.initial.target) (g.T.SsaTarget.shape l.target) l.start l.next;
  keeps : g.T.SsaTarget.rest l.target ≡ g.T.SsaTarget.rest l.initial.target;
}

abbrev pub decreases-loop-made : goal.decreases-loop-made
decreases-loop-made g l =
    (free_places l.initial.self.made l.var (g.T.SsaTarget.shape l.initial.target).blocks + length l.initial.self.made) - l.next
