use Rattle.std.proofs.Common.{◌≡◌, [], sym, ◌∙◌, ap, subst}
use Rattle.ssa_core.specs.Places.{found, Puts}
use Rattle.ssa_core.proofs.Filling.{decide_by}
use Rattle.ssa_core.proofs.Making.{makes_refl}
use Rattle.ssa_core.proofs.Standing.{advances_refl, lose_advances, lose_makes}
use Rattle.ssa_core.proofs.work.Work.lose.Goals as goal

pub returns-in-Some-clause-advances : goal.returns-in-Some-clause-advances
returns-in-Some-clause-advances g c =
    advances_refl g.T.SsaTarget.mode_of c.args.self.now (g.T.SsaTarget.shape c.args.target.now) c.requires.kept c.args.var

pub returns-in-Some-clause-makes : goal.returns-in-Some-clause-makes
returns-in-Some-clause-makes g c = makes_refl (λ x. x ≡ c.args.var) [] c.args.self.now (g.T.SsaTarget.shape c.args.target.now)

pub returns-in_ok-note_lost-in-None-clause-advances : goal.returns-in_ok-note_lost-in-None-clause-advances
returns-in_ok-note_lost-in-None-clause-advances g c =
    lose_advances g.T.SsaTarget.mode_of c.args.self.now c.note_lost.new.self (g.T.SsaTarget.shape c.args.target.now) (g.T.SsaTarget.shape c.unknown.new.self)
    c.requires.kept c.args.var c.args.block c.in_ok-value-in-None.value c.requires.endless
    (ap (λ k. found k.lost c.args.var c.args.block) (sym c.self.view_is) ∙ sym c.lost.ensures ∙ c.in-None.is)
    c.in_ok-value-in-None.ensures.made
    (ap (λ k. k.made) c.in_ok-note_lost-in-None.ensures.rest ∙ ap (λ k. k.made) c.self.view_is)
    (ap (λ k. k.sealed) c.in_ok-note_lost-in-None.ensures.rest ∙ ap (λ k. k.sealed) c.self.view_is)
    (ap (λ k. k.writes) c.in_ok-note_lost-in-None.ensures.rest ∙ ap (λ k. k.writes) c.self.view_is)
    (ap (λ k. k.reads) c.in_ok-note_lost-in-None.ensures.rest ∙ ap (λ k. k.reads) c.self.view_is)
    (ap (λ k. k.passed) c.in_ok-note_lost-in-None.ensures.rest ∙ ap (λ k. k.passed) c.self.view_is)
    (subst (λ k. Puts k.lost c.note_lost.new.self.lost c.args.var c.args.block c.in_ok-value-in-None.value) c.self.view_is c.in_ok-note_lost-in-None.ensures.puts)

pub returns-in_ok-note_lost-in-None-clause-makes : goal.returns-in_ok-note_lost-in-None-clause-makes
returns-in_ok-note_lost-in-None-clause-makes g c =
    lose_makes g.T.SsaTarget.mode_of c.args.self.now c.note_lost.new.self (g.T.SsaTarget.shape c.args.target.now) (g.T.SsaTarget.shape c.unknown.new.self)
    c.requires.kept c.args.var c.args.block c.in_ok-value-in-None.value c.requires.endless
    (ap (λ k. found k.lost c.args.var c.args.block) (sym c.self.view_is) ∙ sym c.lost.ensures ∙ c.in-None.is)
    c.in_ok-value-in-None.ensures.made
    (ap (λ k. k.made) c.in_ok-note_lost-in-None.ensures.rest ∙ ap (λ k. k.made) c.self.view_is)
    (ap (λ k. k.sealed) c.in_ok-note_lost-in-None.ensures.rest ∙ ap (λ k. k.sealed) c.self.view_is)
    (ap (λ k. k.writes) c.in_ok-note_lost-in-None.ensures.rest ∙ ap (λ k. k.writes) c.self.view_is)
    (ap (λ k. k.reads) c.in_ok-note_lost-in-None.ensures.rest ∙ ap (λ k. k.reads) c.self.view_is)
    (ap (λ k. k.passed) c.in_ok-note_lost-in-None.ensures.rest ∙ ap (λ k. k.passed) c.self.view_is)
    (subst (λ k. Puts k.lost c.note_lost.new.self.lost c.args.var c.args.block c.in_ok-value-in-None.value) c.self.view_is c.in_ok-note_lost-in-None.ensures.puts)
    (decide_by g.T.Value.PartialEq.eq g.met.T.SsaTarget.same g.met.T.SsaTarget.equal)
