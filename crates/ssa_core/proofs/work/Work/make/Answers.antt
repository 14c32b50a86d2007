use Rattle.std.proofs.Common.{◌∙◌, ap, ◌++◌, ◌∷◌, []}
use Rattle.ssa_core.specs.Places.{place}
use Rattle.ssa_core.specs.Known.{sealed_in}
use Rattle.ssa_core.proofs.Filling.{decide_by}
use Rattle.ssa_core.proofs.Standing.{make_advances, make_makes, make_standing, make_open}
use Rattle.ssa_core.proofs.work.Work.make.Goals as goal

pub returns-clause-advances : goal.returns-clause-advances
returns-clause-advances g c =
    make_advances g.T.SsaTarget.mode_of c.args.self.now c.note_made.new.self (g.T.SsaTarget.shape c.args.target.now) (g.T.SsaTarget.shape c.fitting.new.target)
    c.requires.kept c.args.var c.args.block c.in_ok-value.value c.requires.not_known c.requires.there c.requires.ends c.in_ok-value.ensures.fit
    (c.in_ok-note_made.ensures.made ∙ ap (λ k. k.made ++ (place c.args.var c.args.block, c.in_ok-value.value) ∷ []) c.self.view_is)
    (λ b. c.in_ok-note_made.ensures.sealed b ∙ ap (λ k. sealed_in k.sealed b) c.self.view_is)
    (ap (λ k. k.writes) c.in_ok-note_made.ensures.rest ∙ ap (λ k. k.writes) c.self.view_is)
    (ap (λ k. k.reads) c.in_ok-note_made.ensures.rest ∙ ap (λ k. k.reads) c.self.view_is)
    (ap (λ k. k.passed) c.in_ok-note_made.ensures.rest ∙ ap (λ k. k.passed) c.self.view_is)
    (ap (λ k. k.lost) c.in_ok-note_made.ensures.rest ∙ ap (λ k. k.lost) c.self.view_is)

pub returns-clause-makes : goal.returns-clause-makes
returns-clause-makes g c =
    make_makes g.T.SsaTarget.mode_of c.args.self.now c.note_made.new.self (g.T.SsaTarget.shape c.args.target.now) (g.T.SsaTarget.shape c.fitting.new.target)
    c.requires.kept c.args.var c.args.block c.in_ok-value.value c.requires.not_known c.requires.there c.requires.ends c.in_ok-value.ensures.fit
    (c.in_ok-note_made.ensures.made ∙ ap (λ k. k.made ++ (place c.args.var c.args.block, c.in_ok-value.value) ∷ []) c.self.view_is)
    (λ b. c.in_ok-note_made.ensures.sealed b ∙ ap (λ k. sealed_in k.sealed b) c.self.view_is)
    (ap (λ k. k.writes) c.in_ok-note_made.ensures.rest ∙ ap (λ k. k.writes) c.self.view_is)
    (ap (λ k. k.reads) c.in_ok-note_made.ensures.rest ∙ ap (λ k. k.reads) c.self.view_is)
    (ap (λ k. k.passed) c.in_ok-note_made.ensures.rest ∙ ap (λ k. k.passed) c.self.view_is)
    (ap (λ k. k.lost) c.in_ok-note_made.ensures.rest ∙ ap (λ k. k.lost) c.self.view_is)
    (decide_by g.T.Value.PartialEq.eq g.met.T.SsaTarget.same g.met.T.SsaTarget.equal)

pub returns-clause-value : goal.returns-clause-value
returns-clause-value g c =
    make_standing g.T.SsaTarget.mode_of c.args.self.now c.note_made.new.self (g.T.SsaTarget.shape c.args.target.now) (g.T.SsaTarget.shape c.fitting.new.target)
    c.requires.kept c.args.var c.args.block c.in_ok-value.value c.requires.not_known c.requires.there c.requires.ends c.in_ok-value.ensures.fit
    (c.in_ok-note_made.ensures.made ∙ ap (λ k. k.made ++ (place c.args.var c.args.block, c.in_ok-value.value) ∷ []) c.self.view_is)
    (λ b. c.in_ok-note_made.ensures.sealed b ∙ ap (λ k. sealed_in k.sealed b) c.self.view_is)
    (ap (λ k. k.writes) c.in_ok-note_made.ensures.rest ∙ ap (λ k. k.writes) c.self.view_is)
    (ap (λ k. k.reads) c.in_ok-note_made.ensures.rest ∙ ap (λ k. k.reads) c.self.view_is)
    (ap (λ k. k.passed) c.in_ok-note_made.ensures.rest ∙ ap (λ k. k.passed) c.self.view_is)
    (ap (λ k. k.lost) c.in_ok-note_made.ensures.rest ∙ ap (λ k. k.lost) c.self.view_is)

pub returns-clause-pending : goal.returns-clause-pending
returns-clause-pending g c =
    make_open g.T.SsaTarget.mode_of c.args.self.now c.note_made.new.self (g.T.SsaTarget.shape c.args.target.now) (g.T.SsaTarget.shape c.fitting.new.target)
    c.requires.kept c.args.var c.args.block c.in_ok-value.value c.requires.not_known c.requires.there c.requires.ends c.in_ok-value.ensures.fit
    (c.in_ok-note_made.ensures.made ∙ ap (λ k. k.made ++ (place c.args.var c.args.block, c.in_ok-value.value) ∷ []) c.self.view_is)
    (λ b. c.in_ok-note_made.ensures.sealed b ∙ ap (λ k. sealed_in k.sealed b) c.self.view_is)
    (ap (λ k. k.writes) c.in_ok-note_made.ensures.rest ∙ ap (λ k. k.writes) c.self.view_is)
    (ap (λ k. k.reads) c.in_ok-note_made.ensures.rest ∙ ap (λ k. k.reads) c.self.view_is)
    (ap (λ k. k.passed) c.in_ok-note_made.ensures.rest ∙ ap (λ k. k.passed) c.self.view_is)
    (ap (λ k. k.lost) c.in_ok-note_made.ensures.rest ∙ ap (λ k. k.lost) c.self.view_is)
