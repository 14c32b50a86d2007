use Rattle.std.proofs.Common.{◌≡◌}
use Rattle.ssa_core.proofs.Sealing.{Sealing}
use Rattle.ssa_core.proofs.work.Work.seal.Given as goal

abbrev pub invariant-loop-index : goal.invariant-loop-index
invariant-loop-index g l = record {
  sealing : Sealing g.T.SsaTarget.mode_of l.fn.self l.initial.self l.self (g.T.SsaTarget.shape l.initial.target) (g.T.SsaTarget.shape l.target) l.block
      l.index-items l.index-index;
  keeps : g.T.SsaTarget.rest l.target ≡ g.T.SsaTarget.rest l.initial.target;
}
