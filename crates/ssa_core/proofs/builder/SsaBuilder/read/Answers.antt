use Rattle.std.proofs.Common.{◌≡◌, ◌∷◌, [], false}
use Rattle.ssa_core.proofs.Reading.{work_settled, work_makes, settled_spent}
use Rattle.ssa_core.proofs.builder.SsaBuilder.read.Goals as goal

pub read-requires-clause-settled : goal.read-requires-clause-settled
read-requires-clause-settled g c =
    work_settled g.T.SsaTarget.mode_of c.args.self.now c.self.inside.work (g.T.SsaTarget.shape c.args.target.now) c.self.inside.is_spent c.self.view_is
    c.requires.ready c.if-self.false

pub returns-clause-ready : goal.returns-clause-ready
returns-clause-ready g c = λ fresh.
    settled_spent g.T.SsaTarget.mode_of (g.T.SsaTarget.shape c.read.new.target) c.read.new.self false c.in_ok-value.ensures.settled

pub returns-clause-makes : goal.returns-clause-makes
returns-clause-makes g c =
    work_makes g.T.SsaTarget.mode_of c.args.self.now c.self.inside.work (g.T.SsaTarget.shape c.args.target.now) c.self.inside.is_spent c.self.view_is
    (λ x. x ≡ c.args.var) (c.args.block ∷ []) c.read.new.self (g.T.SsaTarget.shape c.read.new.target) c.in_ok-value.ensures.makes
