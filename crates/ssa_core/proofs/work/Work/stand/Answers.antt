use Rattle.std.proofs.Common.{◌∷◌, [], ◌≡◌, refl, sym, ◌∙◌, ap}
use Rattle.ssa_core.specs.Steps.{known_value}
use Rattle.ssa_core.proofs.Making.{makes_refl}
use Rattle.ssa_core.proofs.Standing.{advances_refl, none_open, same_standing, known_once}
use Rattle.ssa_core.proofs.work.Work.stand.Goals as goal

pub current-requires : goal.current-requires
current-requires g c =
    known_once g.T.SsaTarget.mode_of c.args.self.now (g.T.SsaTarget.shape c.args.target.now) c.requires.kept c.args.var c.args.block c.in-Some.value
    (ap (λ k. known_value k c.args.var c.args.block) (sym c.self.view_is) ∙ sym c.known.ensures ∙ c.in-Some.is)

pub returns-in-Some-clause-advances : goal.returns-in-Some-clause-advances
returns-in-Some-clause-advances g c =
    advances_refl g.T.SsaTarget.mode_of c.args.self.now (g.T.SsaTarget.shape c.args.target.now) c.requires.kept c.args.var

pub returns-in-Some-clause-makes : goal.returns-in-Some-clause-makes
returns-in-Some-clause-makes g c =
    makes_refl (λ x. x ≡ c.args.var) (c.args.block ∷ []) c.args.self.now (g.T.SsaTarget.shape c.args.target.now)

pub returns-in-Some-clause-value : goal.returns-in-Some-clause-value
returns-in-Some-clause-value g c =
    same_standing g.T.SsaTarget.mode_of c.args.self.now (g.T.SsaTarget.shape c.args.target.now) c.requires.kept c.args.var c.args.block c.in-Some.value
    c.current.result c.args.self.now refl
    (ap (λ k. known_value k c.args.var c.args.block) (sym c.self.view_is) ∙ sym c.known.ensures ∙ c.in-Some.is) c.current.ensures

pub returns-in-Some-clause-pending : goal.returns-in-Some-clause-pending
returns-in-Some-clause-pending g c =
    none_open g.T.SsaTarget.mode_of c.args.self.now (g.T.SsaTarget.shape c.args.target.now) c.requires.kept (g.T.SsaTarget.shape c.args.target.now)
    c.args.self.now c.args.var refl
