use Rattle.ssa_core.specs.Known.{view}
use Rattle.ssa_core.proofs.Finding.{going_start, going_on}
use Rattle.ssa_core.proofs.work.Work.go_back.Goals as goal

pub loop-self-init : goal.loop-self-init
loop-self-init g c =
    going_start (view c.args.self.now (g.T.SsaTarget.shape c.args.target.now) c.args.var) c.args.block c.args.trail.now.items c.requires.empty c.requires.there

pub loop-self-preserved : goal.loop-self-preserved
loop-self-preserved g c =
    going_on (view c.args.self.now (g.T.SsaTarget.shape c.args.target.now) c.args.var) c.args.block c.loop-self.at c.in-Some.before c.loop-self.trail.items _
    c.loop-self.invariant c.in-Some.ensures.some c.in_ok-push-in-Some.ensures.items
