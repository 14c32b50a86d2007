use Rattle.std.proofs.Common.{◌≡◌, ◌∷◌, [], ◌+◌, length, refl, sym, ap, ◌∙◌, rules}
use Rattle.std.specs.List.{slice_get}
use Rattle.std.proofs.lemmas.List.{length-append}
use Rattle.ssa_core.proofs.Making.{makes_refl, adds_refl}
use Rattle.ssa_core.proofs.Standing.{advances_refl, none_open}
use Rattle.ssa_core.proofs.Finding.{none_given, gather_advances, gather_makes, gather_adds, gather_given, gather_open}
use Rattle.ssa_core.proofs.work.Work.gather.Goals as goal

pub loop-index-init : goal.loop-index-init
loop-index-init g c = record {
  advances = advances_refl g.T.SsaTarget.mode_of c.args.self.now (g.T.SsaTarget.shape c.args.target.now) c.requires.kept c.args.var;
  makes = makes_refl (λ x. x ≡ c.args.var) _ c.args.self.now (g.T.SsaTarget.shape c.args.target.now);
  adds = adds_refl (g.T.SsaTarget.shape c.args.target.now);
  pending =
      none_open g.T.SsaTarget.mode_of c.args.self.now (g.T.SsaTarget.shape c.args.target.now) c.requires.kept (g.T.SsaTarget.shape c.args.target.now) c.args.self.now
      c.args.var refl;
  given = none_given _ _ _ _ (search rules);
  count = search rules;
  keeps = refl;
}

pub loop-index-preserved : goal.loop-index-preserved
loop-index-preserved g c = record {
  advances =
      gather_advances g.T.SsaTarget.mode_of c.args.self.now c.loop-index.self c.find.new.self (g.T.SsaTarget.shape c.args.target.now) (g.T.SsaTarget.shape c.loop-index.target)
      (g.T.SsaTarget.shape c.find.new.target) c.requires.kept c.args.var c.args.block c.pred-pred.result c.in_ok-find.field-0 c.loop-index.operands.items c.loop-index.invariant.advances
      c.loop-index.invariant.makes c.loop-index.invariant.adds c.loop-index.invariant.pending c.loop-index.invariant.given
      (ap (λ n. slice_get ((g.T.SsaTarget.shape c.args.target.now).preds c.args.block) n) c.loop-index.invariant.count
      ∙ ap (λ qs. slice_get qs c.loop-index.index) (sym (c.loop-index.invariant.adds.same_blocks.preds c.args.block)) ∙ c.pred-pred.ensures.value)
      c.in_ok-find.ensures.advances c.in_ok-find.ensures.makes c.in_ok-find.ensures.adds c.in_ok-find.ensures.value c.in_ok-find.ensures.pending;
  makes =
      gather_makes g.T.SsaTarget.mode_of c.args.self.now c.loop-index.self c.find.new.self (g.T.SsaTarget.shape c.args.target.now) (g.T.SsaTarget.shape c.loop-index.target)
      (g.T.SsaTarget.shape c.find.new.target) c.requires.kept c.args.var c.args.block c.pred-pred.result c.in_ok-find.field-0 c.loop-index.operands.items c.loop-index.invariant.advances
      c.loop-index.invariant.makes c.loop-index.invariant.adds c.loop-index.invariant.pending c.loop-index.invariant.given
      (ap (λ n. slice_get ((g.T.SsaTarget.shape c.args.target.now).preds c.args.block) n) c.loop-index.invariant.count
      ∙ ap (λ qs. slice_get qs c.loop-index.index) (sym (c.loop-index.invariant.adds.same_blocks.preds c.args.block)) ∙ c.pred-pred.ensures.value)
      c.in_ok-find.ensures.advances c.in_ok-find.ensures.makes c.in_ok-find.ensures.adds c.in_ok-find.ensures.value c.in_ok-find.ensures.pending;
  adds =
      gather_adds g.T.SsaTarget.mode_of c.args.self.now c.loop-index.self c.find.new.self (g.T.SsaTarget.shape c.args.target.now) (g.T.SsaTarget.shape c.loop-index.target)
      (g.T.SsaTarget.shape c.find.new.target) c.requires.kept c.args.var c.args.block c.pred-pred.result c.in_ok-find.field-0 c.loop-index.operands.items c.loop-index.invariant.advances
      c.loop-index.invariant.makes c.loop-index.invariant.adds c.loop-index.invariant.pending c.loop-index.invariant.given
      (ap (λ n. slice_get ((g.T.SsaTarget.shape c.args.target.now).preds c.args.block) n) c.loop-index.invariant.count
      ∙ ap (λ qs. slice_get qs c.loop-index.index) (sym (c.loop-index.invariant.adds.same_blocks.preds c.args.block)) ∙ c.pred-pred.ensures.value)
      c.in_ok-find.ensures.advances c.in_ok-find.ensures.makes c.in_ok-find.ensures.adds c.in_ok-find.ensures.value c.in_ok-find.ensures.pending;
  pending =
      gather_open g.T.SsaTarget.mode_of c.args.self.now c.loop-index.self c.find.new.self (g.T.SsaTarget.shape c.args.target.now) (g.T.SsaTarget.shape c.loop-index.target)
      (g.T.SsaTarget.shape c.find.new.target) c.requires.kept c.args.var c.args.block c.pred-pred.result c.in_ok-find.field-0 c.loop-index.operands.items c.loop-index.invariant.advances
      c.loop-index.invariant.makes c.loop-index.invariant.adds c.loop-index.invariant.pending c.loop-index.invariant.given
      (ap (λ n. slice_get ((g.T.SsaTarget.shape c.args.target.now).preds c.args.block) n) c.loop-index.invariant.count
      ∙ ap (λ qs. slice_get qs c.loop-index.index) (sym (c.loop-index.invariant.adds.same_blocks.preds c.args.block)) ∙ c.pred-pred.ensures.value)
      c.in_ok-find.ensures.advances c.in_ok-find.ensures.makes c.in_ok-find.ensures.adds c.in_ok-find.ensures.value c.in_ok-find.ensures.pending;
  given =
      gather_given g.T.SsaTarget.mode_of c.args.self.now c.loop-index.self c.find.new.self (g.T.SsaTarget.shape c.args.target.now) (g.T.SsaTarget.shape c.loop-index.target)
      (g.T.SsaTarget.shape c.find.new.target) c.requires.kept c.args.var c.args.block c.pred-pred.result c.in_ok-find.field-0 c.loop-index.operands.items c.loop-index.invariant.advances
      c.loop-index.invariant.makes c.loop-index.invariant.adds c.loop-index.invariant.pending c.loop-index.invariant.given
      (ap (λ n. slice_get ((g.T.SsaTarget.shape c.args.target.now).preds c.args.block) n) c.loop-index.invariant.count
      ∙ ap (λ qs. slice_get qs c.loop-index.index) (sym (c.loop-index.invariant.adds.same_blocks.preds c.args.block)) ∙ c.pred-pred.ensures.value)
      c.in_ok-find.ensures.advances c.in_ok-find.ensures.makes c.in_ok-find.ensures.adds c.in_ok-find.ensures.value c.in_ok-find.ensures.pending
      c.push.new.self.items c.in_ok-push.ensures.items;
  count =
      ap (λ xs. length xs) c.in_ok-push.ensures.items ∙ length-append c.loop-index.operands.items (c.in_ok-find.field-0 ∷ [])
      ∙ ap (λ n. n + 1) c.loop-index.invariant.count;
  keeps = c.in_ok-find.ensures.keeps ∙ c.loop-index.invariant.keeps;
}

pub returns-clause-given : goal.returns-clause-given
returns-clause-given g c = c.loop-index.invariant.given
