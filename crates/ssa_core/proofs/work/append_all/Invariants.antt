use Rattle.std.proofs.Common.{◌≡◌, take}
use Rattle.ssa_core.specs.Steps.{IsFilled}
use Rattle.ssa_core.proofs.work.append_all.Given as goal

abbrev pub invariant-loop-operand : goal.invariant-loop-operand
invariant-loop-operand g l = record {
  filled : IsFilled (g.T.SsaTarget.shape l.initial.target) (g.T.SsaTarget.shape l.target) l.phi (take l.operand-index l.operands);
  keeps : g.T.SsaTarget.rest l.target ≡ g.T.SsaTarget.rest l.initial.target;
}
