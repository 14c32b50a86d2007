use Rattle.std.proofs.Common.{◌≡◌, true, None, rules, ◌∙◌, sym}
use Rattle.ssa_core.specs.Known.{last_write, sealed_in, view}
use Rattle.ssa_core.proofs.Finding.{steps_back}
use Rattle.ssa_core.proofs.work.Work.step_back.Goals as goal

pub returns-clause-some : goal.returns-clause-some
returns-clause-some g c =
    let sealed : sealed_in c.args.self.now.sealed c.args.block ≡ true = search rules in
    let unwritten : last_write c.args.self.now.writes c.args.var c.args.block ≡ None = search rules in
    steps_back (view c.args.self.now (g.T.SsaTarget.shape c.args.target.now) c.args.var) c.args.block c.pred.result sealed unwritten
    (sym c.pred_count.ensures ∙ c.if-pred_count-ne1.false) c.pred.ensures.value c.pred.ensures.there
