use Rattle.std.proofs.Common.{◌≡◌, length}
use Rattle.ssa_core.specs.Known.{view}
use Rattle.ssa_core.specs.Building.{Makes}
use Rattle.ssa_core.specs.Steps.{Adds, Advances, AreGiven, AreOpen}
use Rattle.ssa_core.proofs.work.Work.gather.Given as goal

abbrev pub invariant-loop-index : goal.invariant-loop-index
invariant-loop-index g l = record {
  advances : Advances g.T.SsaTarget.mode_of l.var l.initial.self l.self (g.T.SsaTarget.shape l.initial.target) (g.T.SsaTarget.shape l.target);
  makes : Makes (λ x. x ≡ l.var) ((g.T.SsaTarget.shape l.initial.target).preds l.block) l.initial.self l.self (g.T.SsaTarget.shape l.initial.target)
      (g.T.SsaTarget.shape l.target);
  adds : Adds (g.T.SsaTarget.shape l.initial.target) (g.T.SsaTarget.shape l.target);
  pending : AreOpen l.self (g.T.SsaTarget.shape l.target) l.var (length l.initial.self.made);
  given : AreGiven (view l.self (g.T.SsaTarget.shape l.target) l.var) (g.T.SsaTarget.mode_of l.var) l.block l.operands.items;
  count : length l.operands.items ≡ l.index;
  keeps : g.T.SsaTarget.rest l.target ≡ g.T.SsaTarget.rest l.initial.target;
}
