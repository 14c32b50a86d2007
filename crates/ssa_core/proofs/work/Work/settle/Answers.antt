use Rattle.std.proofs.Common.{refl, sym, ap, ◌∙◌, rules}
use Rattle.std.specs.List.{slice_get}
use Rattle.ssa_core.proofs.Settling.{settle_start, next_made, next_open, settle_next, settle_end, settle_bound}
use Rattle.ssa_core.proofs.work.Work.settle.Goals as goal

pub loop-made-init : goal.loop-made-init
loop-made-init g c = record {
  settling =
      settle_start g.T.SsaTarget.mode_of c.args.var c.args.self.now (g.T.SsaTarget.shape c.args.target.now) c.args.start c.requires.kept c.requires.pending
      c.requires.within;
  keeps = refl;
}

pub fill-requires-clause-kept : goal.fill-requires-clause-kept
fill-requires-clause-kept g c = c.loop-made.invariant.settling.advances.kept

pub fill-requires-clause-made : goal.fill-requires-clause-made
fill-requires-clause-made g c =
    next_made g.T.SsaTarget.mode_of c.args.var c.args.self.now c.loop-made.self (g.T.SsaTarget.shape c.args.target.now) (g.T.SsaTarget.shape c.loop-made.target) c.args.start c.loop-made.next
    c.loop-made.invariant.settling c.in-Some.made.place c.in-Some.made.value
    (ap (λ k. slice_get k.made c.loop-made.next) (sym c.self.view_is) ∙ c.in-Some.ensures.some)

pub fill-requires-clause-pending : goal.fill-requires-clause-pending
fill-requires-clause-pending g c =
    next_open g.T.SsaTarget.mode_of c.args.var c.args.self.now c.loop-made.self (g.T.SsaTarget.shape c.args.target.now) (g.T.SsaTarget.shape c.loop-made.target) c.args.start c.loop-made.next
    c.loop-made.invariant.settling c.in-Some.made.place c.in-Some.made.value
    (ap (λ k. slice_get k.made c.loop-made.next) (sym c.self.view_is) ∙ c.in-Some.ensures.some)

pub overflow_add-next : goal.overflow_add-next
overflow_add-next g c = search (rules, c.in-Some.ensures.more)

pub loop-made-smaller : goal.loop-made-smaller
loop-made-smaller g c =
    settle_bound g.T.SsaTarget.mode_of c.args.var c.args.self.now c.loop-made.self (g.T.SsaTarget.shape c.args.target.now) (g.T.SsaTarget.shape c.loop-made.target) c.args.start c.loop-made.next
    c.loop-made.invariant.settling c.in-Some.made.place c.in-Some.made.value
    (ap (λ k. slice_get k.made c.loop-made.next) (sym c.self.view_is) ∙ c.in-Some.ensures.some)

pub loop-made-preserved : goal.loop-made-preserved
loop-made-preserved g c = record {
  settling =
      settle_next g.T.SsaTarget.mode_of c.args.var c.args.self.now c.loop-made.self (g.T.SsaTarget.shape c.args.target.now) (g.T.SsaTarget.shape c.loop-made.target) c.args.start c.loop-made.next
      c.loop-made.invariant.settling c.in-Some.made.place c.in-Some.made.value
      (ap (λ k. slice_get k.made c.loop-made.next) (sym c.self.view_is) ∙ c.in-Some.ensures.some) c.fill.new.self (g.T.SsaTarget.shape c.fill.new.target)
      c.in_ok-fill.ensures.advances c.in_ok-fill.ensures.makes c.in_ok-fill.ensures.others c.in_ok-fill.ensures.full c.in_ok-fill.ensures.pending;
  keeps = c.in_ok-fill.ensures.keeps ∙ c.loop-made.invariant.keeps;
}

pub returns-clause-makes : goal.returns-clause-makes
returns-clause-makes g c = c.loop-made.invariant.settling.makes

pub returns-clause-settles : goal.returns-clause-settles
returns-clause-settles g c =
    settle_end g.T.SsaTarget.mode_of c.args.var c.args.self.now c.loop-made.self (g.T.SsaTarget.shape c.args.target.now) (g.T.SsaTarget.shape c.loop-made.target) c.args.start c.loop-made.next
    c.loop-made.invariant.settling (ap (λ k. slice_get k.made c.loop-made.next) (sym c.self.view_is) ∙ c.in_default.ensures.none)

pub returns-clause-early : goal.returns-clause-early
returns-clause-early g c = c.loop-made.invariant.settling.early
