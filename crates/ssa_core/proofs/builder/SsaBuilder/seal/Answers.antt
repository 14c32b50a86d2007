use Rattle.std.proofs.Common.{false, sym, ap, ◌∙◌}
use Rattle.ssa_core.specs.Known.{sealed_in}
use Rattle.ssa_core.specs.Places.{found}
use Rattle.ssa_core.specs.Building.{IsWaiting}
use Rattle.ssa_core.proofs.Making.{makes_through}
use Rattle.ssa_core.proofs.Reading.{work_settled, work_makes, settled_spent}
use Rattle.ssa_core.proofs.builder.SsaBuilder.seal.Goals as goal

pub seal-requires-clause-settled : goal.seal-requires-clause-settled
seal-requires-clause-settled g c =
    work_settled g.T.SsaTarget.mode_of c.args.self.now c.self.inside.work (g.T.SsaTarget.shape c.args.target.now) c.self.inside.is_spent c.self.view_is
    c.requires.ready c.if-self.false

pub seal-requires-clause-once : goal.seal-requires-clause-once
seal-requires-clause-once g c =
    ap (λ k. sealed_in k.sealed c.args.block) c.self.view_is ∙ c.requires.once (ap (λ k. k.spent) (sym c.self.view_is) ∙ c.if-self.false)

pub returns-clause-ready : goal.returns-clause-ready
returns-clause-ready g c = λ fresh.
    settled_spent g.T.SsaTarget.mode_of (g.T.SsaTarget.shape c.seal.new.target) c.seal.new.self false c.in_ok-seal.ensures.settled

pub returns-clause-makes : goal.returns-clause-makes
returns-clause-makes g c =
    makes_through (IsWaiting c.self.inside.work c.args.block) (IsWaiting c.args.self.now c.args.block) _ _ c.args.self.now (record c.seal.new.self { spent = false })
    (g.T.SsaTarget.shape c.args.target.now) (g.T.SsaTarget.shape c.seal.new.target)
    (λ x h. record { value = h.value; is = ap (λ k. found k.made x c.args.block) (sym c.self.view_is) ∙ h.is })
    (λ x start h way. way)
    (work_makes g.T.SsaTarget.mode_of c.args.self.now c.self.inside.work (g.T.SsaTarget.shape c.args.target.now) c.self.inside.is_spent c.self.view_is
    (IsWaiting c.self.inside.work c.args.block) _ c.seal.new.self (g.T.SsaTarget.shape c.seal.new.target) c.in_ok-seal.ensures.makes)
