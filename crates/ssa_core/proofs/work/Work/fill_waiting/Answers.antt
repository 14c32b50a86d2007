use Rattle.std.proofs.Common.{◌≡◌, ℕ, ◌<◌, List, length, refl, sym, ap, ◌∙◌, subst}
use Rattle.std.specs.List.{slice_get}
use Rattle.std.proofs.lemmas.Option.{slice_get_within}
use Rattle.ssa_core.specs.Building.{Makes}
use Rattle.ssa_core.specs.Steps.{AreOpen, AreReached, Settles}
use Rattle.ssa_core.proofs.Standing.{none_open}
use Rattle.ssa_core.proofs.Settling.{waiting_makes, waiting_none, waiting_here, waiting_others, waiting_settles, absent_makes, absent_none, absent_here, absent_settles}
use Rattle.ssa_core.proofs.work.Work.fill_waiting.Goals as goal

pub settle-requires-clause-pending : goal.settle-requires-clause-pending
settle-requires-clause-pending g c =
    subst (λ n. AreOpen c.fill.new.self (g.T.SsaTarget.shape c.fill.new.target) c.in-Some.made.place.var n) (sym (c.made_count-start.ensures ∙ ap (λ k. length k.made) c.self.view_is))
    (c.in_ok-fill-in-Some.ensures.pending c.args.index (length c.args.self.now.made) (ap (λ k. slice_get k.made c.args.index) (sym c.self.view_is) ∙ c.in-Some.ensures.some)
    (slice_get_within c.args.self.now.made c.args.index (c.in-Some.made.place, c.in-Some.made.value) (ap (λ k. slice_get k.made c.args.index) (sym c.self.view_is) ∙ c.in-Some.ensures.some))
    (none_open g.T.SsaTarget.mode_of c.args.self.now (g.T.SsaTarget.shape c.args.target.now) c.requires.kept (g.T.SsaTarget.shape c.args.target.now) c.args.self.now c.in-Some.made.place.var refl))

pub returns-in_ok-settle-in-Some-clause-makes : goal.returns-in_ok-settle-in-Some-clause-makes
returns-in_ok-settle-in-Some-clause-makes g c =
    waiting_makes g.T.SsaTarget.mode_of c.args.self.now c.fill.new.self c.settle.new.self (g.T.SsaTarget.shape c.args.target.now) (g.T.SsaTarget.shape c.fill.new.target)
    (g.T.SsaTarget.shape c.settle.new.target) c.requires.kept c.args.index c.in-Some.made.place c.in-Some.made.value
    (ap (λ k. slice_get k.made c.args.index) (sym c.self.view_is) ∙ c.in-Some.ensures.some)
    c.in_ok-fill-in-Some.ensures.advances c.in_ok-fill-in-Some.ensures.makes c.in_ok-fill-in-Some.ensures.full c.in_ok-settle-in-Some.ensures.advances
    (subst (λ n. (ends : List ℕ) → AreReached c.fill.new.self (g.T.SsaTarget.shape c.fill.new.target) n ends
    → Makes (λ x. x ≡ c.in-Some.made.place.var) ends c.fill.new.self c.settle.new.self (g.T.SsaTarget.shape c.fill.new.target) (g.T.SsaTarget.shape c.settle.new.target))
    (c.made_count-start.ensures ∙ ap (λ k. length k.made) c.self.view_is) c.in_ok-settle-in-Some.ensures.makes)
    (subst (λ n. Settles c.fill.new.self c.settle.new.self (g.T.SsaTarget.shape c.fill.new.target) (g.T.SsaTarget.shape c.settle.new.target) n)
    (c.made_count-start.ensures ∙ ap (λ k. length k.made) c.self.view_is) c.in_ok-settle-in-Some.ensures.settles)
    c.in_ok-fill-in-Some.ensures.others
    (λ i x q less. c.in_ok-settle-in-Some.ensures.early i x q (subst (λ n. i < n) (sym (c.made_count-start.ensures ∙ ap (λ k. length k.made) c.self.view_is)) less))

pub returns-in_ok-settle-in-Some-clause-none : goal.returns-in_ok-settle-in-Some-clause-none
returns-in_ok-settle-in-Some-clause-none g c =
    waiting_none g.T.SsaTarget.mode_of c.args.self.now c.fill.new.self c.settle.new.self (g.T.SsaTarget.shape c.args.target.now) (g.T.SsaTarget.shape c.fill.new.target)
    (g.T.SsaTarget.shape c.settle.new.target) c.requires.kept c.args.index c.in-Some.made.place c.in-Some.made.value
    (ap (λ k. slice_get k.made c.args.index) (sym c.self.view_is) ∙ c.in-Some.ensures.some)
    c.in_ok-fill-in-Some.ensures.advances c.in_ok-fill-in-Some.ensures.makes c.in_ok-fill-in-Some.ensures.full c.in_ok-settle-in-Some.ensures.advances
    (subst (λ n. (ends : List ℕ) → AreReached c.fill.new.self (g.T.SsaTarget.shape c.fill.new.target) n ends
    → Makes (λ x. x ≡ c.in-Some.made.place.var) ends c.fill.new.self c.settle.new.self (g.T.SsaTarget.shape c.fill.new.target) (g.T.SsaTarget.shape c.settle.new.target))
    (c.made_count-start.ensures ∙ ap (λ k. length k.made) c.self.view_is) c.in_ok-settle-in-Some.ensures.makes)
    (subst (λ n. Settles c.fill.new.self c.settle.new.self (g.T.SsaTarget.shape c.fill.new.target) (g.T.SsaTarget.shape c.settle.new.target) n)
    (c.made_count-start.ensures ∙ ap (λ k. length k.made) c.self.view_is) c.in_ok-settle-in-Some.ensures.settles)
    c.in_ok-fill-in-Some.ensures.others
    (λ i x q less. c.in_ok-settle-in-Some.ensures.early i x q (subst (λ n. i < n) (sym (c.made_count-start.ensures ∙ ap (λ k. length k.made) c.self.view_is)) less))

pub returns-in_ok-settle-in-Some-clause-here : goal.returns-in_ok-settle-in-Some-clause-here
returns-in_ok-settle-in-Some-clause-here g c =
    waiting_here g.T.SsaTarget.mode_of c.args.self.now c.fill.new.self c.settle.new.self (g.T.SsaTarget.shape c.args.target.now) (g.T.SsaTarget.shape c.fill.new.target)
    (g.T.SsaTarget.shape c.settle.new.target) c.requires.kept c.args.index c.in-Some.made.place c.in-Some.made.value
    (ap (λ k. slice_get k.made c.args.index) (sym c.self.view_is) ∙ c.in-Some.ensures.some)
    c.in_ok-fill-in-Some.ensures.advances c.in_ok-fill-in-Some.ensures.makes c.in_ok-fill-in-Some.ensures.full c.in_ok-settle-in-Some.ensures.advances
    (subst (λ n. (ends : List ℕ) → AreReached c.fill.new.self (g.T.SsaTarget.shape c.fill.new.target) n ends
    → Makes (λ x. x ≡ c.in-Some.made.place.var) ends c.fill.new.self c.settle.new.self (g.T.SsaTarget.shape c.fill.new.target) (g.T.SsaTarget.shape c.settle.new.target))
    (c.made_count-start.ensures ∙ ap (λ k. length k.made) c.self.view_is) c.in_ok-settle-in-Some.ensures.makes)
    (subst (λ n. Settles c.fill.new.self c.settle.new.self (g.T.SsaTarget.shape c.fill.new.target) (g.T.SsaTarget.shape c.settle.new.target) n)
    (c.made_count-start.ensures ∙ ap (λ k. length k.made) c.self.view_is) c.in_ok-settle-in-Some.ensures.settles)
    c.in_ok-fill-in-Some.ensures.others
    (λ i x q less. c.in_ok-settle-in-Some.ensures.early i x q (subst (λ n. i < n) (sym (c.made_count-start.ensures ∙ ap (λ k. length k.made) c.self.view_is)) less))

pub returns-in_ok-settle-in-Some-clause-others : goal.returns-in_ok-settle-in-Some-clause-others
returns-in_ok-settle-in-Some-clause-others g c =
    waiting_others g.T.SsaTarget.mode_of c.args.self.now c.fill.new.self c.settle.new.self (g.T.SsaTarget.shape c.args.target.now) (g.T.SsaTarget.shape c.fill.new.target)
    (g.T.SsaTarget.shape c.settle.new.target) c.requires.kept c.args.index c.in-Some.made.place c.in-Some.made.value
    (ap (λ k. slice_get k.made c.args.index) (sym c.self.view_is) ∙ c.in-Some.ensures.some)
    c.in_ok-fill-in-Some.ensures.advances c.in_ok-fill-in-Some.ensures.makes c.in_ok-fill-in-Some.ensures.full c.in_ok-settle-in-Some.ensures.advances
    (subst (λ n. (ends : List ℕ) → AreReached c.fill.new.self (g.T.SsaTarget.shape c.fill.new.target) n ends
    → Makes (λ x. x ≡ c.in-Some.made.place.var) ends c.fill.new.self c.settle.new.self (g.T.SsaTarget.shape c.fill.new.target) (g.T.SsaTarget.shape c.settle.new.target))
    (c.made_count-start.ensures ∙ ap (λ k. length k.made) c.self.view_is) c.in_ok-settle-in-Some.ensures.makes)
    (subst (λ n. Settles c.fill.new.self c.settle.new.self (g.T.SsaTarget.shape c.fill.new.target) (g.T.SsaTarget.shape c.settle.new.target) n)
    (c.made_count-start.ensures ∙ ap (λ k. length k.made) c.self.view_is) c.in_ok-settle-in-Some.ensures.settles)
    c.in_ok-fill-in-Some.ensures.others
    (λ i x q less. c.in_ok-settle-in-Some.ensures.early i x q (subst (λ n. i < n) (sym (c.made_count-start.ensures ∙ ap (λ k. length k.made) c.self.view_is)) less))

pub returns-in_ok-settle-in-Some-clause-settles : goal.returns-in_ok-settle-in-Some-clause-settles
returns-in_ok-settle-in-Some-clause-settles g c =
    waiting_settles g.T.SsaTarget.mode_of c.args.self.now c.fill.new.self c.settle.new.self (g.T.SsaTarget.shape c.args.target.now) (g.T.SsaTarget.shape c.fill.new.target)
    (g.T.SsaTarget.shape c.settle.new.target) c.requires.kept c.args.index c.in-Some.made.place c.in-Some.made.value
    (ap (λ k. slice_get k.made c.args.index) (sym c.self.view_is) ∙ c.in-Some.ensures.some)
    c.in_ok-fill-in-Some.ensures.advances c.in_ok-fill-in-Some.ensures.makes c.in_ok-fill-in-Some.ensures.full c.in_ok-settle-in-Some.ensures.advances
    (subst (λ n. (ends : List ℕ) → AreReached c.fill.new.self (g.T.SsaTarget.shape c.fill.new.target) n ends
    → Makes (λ x. x ≡ c.in-Some.made.place.var) ends c.fill.new.self c.settle.new.self (g.T.SsaTarget.shape c.fill.new.target) (g.T.SsaTarget.shape c.settle.new.target))
    (c.made_count-start.ensures ∙ ap (λ k. length k.made) c.self.view_is) c.in_ok-settle-in-Some.ensures.makes)
    (subst (λ n. Settles c.fill.new.self c.settle.new.self (g.T.SsaTarget.shape c.fill.new.target) (g.T.SsaTarget.shape c.settle.new.target) n)
    (c.made_count-start.ensures ∙ ap (λ k. length k.made) c.self.view_is) c.in_ok-settle-in-Some.ensures.settles)
    c.in_ok-fill-in-Some.ensures.others
    (λ i x q less. c.in_ok-settle-in-Some.ensures.early i x q (subst (λ n. i < n) (sym (c.made_count-start.ensures ∙ ap (λ k. length k.made) c.self.view_is)) less))

pub returns-in-None-clause-makes : goal.returns-in-None-clause-makes
returns-in-None-clause-makes g c =
    absent_makes g.T.SsaTarget.mode_of c.args.self.now (g.T.SsaTarget.shape c.args.target.now) c.args.index
    (ap (λ k. slice_get k.made c.args.index) (sym c.self.view_is) ∙ c.in-None.ensures.none)

pub returns-in-None-clause-none : goal.returns-in-None-clause-none
returns-in-None-clause-none g c =
    λ none. absent_none g.T.SsaTarget.mode_of c.args.self.now (g.T.SsaTarget.shape c.args.target.now) c.args.index
    (ap (λ k. slice_get k.made c.args.index) (sym c.self.view_is) ∙ c.in-None.ensures.none)

pub returns-in-None-clause-here : goal.returns-in-None-clause-here
returns-in-None-clause-here g c =
    absent_here g.T.SsaTarget.mode_of c.args.self.now (g.T.SsaTarget.shape c.args.target.now) c.args.index
    (ap (λ k. slice_get k.made c.args.index) (sym c.self.view_is) ∙ c.in-None.ensures.none)

pub returns-in-None-clause-settles : goal.returns-in-None-clause-settles
returns-in-None-clause-settles g c =
    absent_settles g.T.SsaTarget.mode_of c.args.self.now (g.T.SsaTarget.shape c.args.target.now) c.args.index
    (ap (λ k. slice_get k.made c.args.index) (sym c.self.view_is) ∙ c.in-None.ensures.none)
