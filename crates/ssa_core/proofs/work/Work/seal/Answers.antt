use Rattle.std.proofs.Common.{◌≡◌, get_or, refl, ap, ◌∙◌, subst}
use Rattle.std.proofs.lemmas.Option.{slice_get-get_or}
use Rattle.ssa_core.specs.Known.{Known, sealed_in, indices_in}
use Rattle.ssa_core.proofs.Sealing.{stays_sealed, sealing_start, waiting_open, sealing_next, seal_makes, seal_writes, seal_reads, seal_settled}
use Rattle.ssa_core.proofs.work.Work.seal.Goals as goal

pub loop-index-init : goal.loop-index-init
loop-index-init g c = record {
  sealing =
      sealing_start g.T.SsaTarget.mode_of c.args.self.now c.seal.new.self (g.T.SsaTarget.shape c.args.target.now) c.requires.settled c.args.block c.requires.there c.requires.once
      (subst (λ (k : Known _). c.seal.new.self ≡ record k { sealed = c.seal.new.self.sealed }) c.self.view_is c.in_ok-waiting.ensures.rest)
      c.in_ok-waiting.ensures.sealed
      (λ b d. c.in_ok-waiting.ensures.others b d ∙ ap (λ k. sealed_in k.sealed b) c.self.view_is)
      c.deref-index-items.result.now (c.deref-index-items.ensures.value ∙ c.in_ok-waiting.ensures.waiting ∙ ap (λ k. indices_in k.made c.args.block) c.self.view_is);
  keeps = refl;
}

pub fill_waiting-requires-clause-kept : goal.fill_waiting-requires-clause-kept
fill_waiting-requires-clause-kept g c = c.loop-index.invariant.sealing.kept

pub fill_waiting-requires-clause-pending : goal.fill_waiting-requires-clause-pending
fill_waiting-requires-clause-pending g c =
    waiting_open g.T.SsaTarget.mode_of c.args.self.now c.seal.new.self c.loop-index.self c.loop-index.self (g.T.SsaTarget.shape c.args.target.now) (g.T.SsaTarget.shape c.loop-index.target) (g.T.SsaTarget.shape c.loop-index.target) c.args.block
    c.deref-index-items.result.now (c.deref-index-items.ensures.value ∙ c.in_ok-waiting.ensures.waiting ∙ ap (λ k. indices_in k.made c.args.block) c.self.view_is)
    c.loop-index.index-index (get_or c.deref-index-items.result.now c.loop-index.index-index 0) c.requires.settled.kept (ap (λ k. k.made) (subst (λ (k : Known _). c.seal.new.self ≡ record k { sealed = c.seal.new.self.sealed }) c.self.view_is c.in_ok-waiting.ensures.rest))
    c.loop-index.invariant.sealing (slice_get-get_or c.deref-index-items.result.now c.loop-index.index-index 0 c.loop-index-test.true)

pub loop-index-preserved : goal.loop-index-preserved
loop-index-preserved g c = record {
  sealing =
      sealing_next g.T.SsaTarget.mode_of c.args.self.now c.seal.new.self c.loop-index.self c.fill_waiting.new.self (g.T.SsaTarget.shape c.args.target.now) (g.T.SsaTarget.shape c.loop-index.target) (g.T.SsaTarget.shape c.fill_waiting.new.target) c.args.block
      c.deref-index-items.result.now (c.deref-index-items.ensures.value ∙ c.in_ok-waiting.ensures.waiting ∙ ap (λ k. indices_in k.made c.args.block) c.self.view_is)
      c.loop-index.index-index (get_or c.deref-index-items.result.now c.loop-index.index-index 0) c.requires.settled.kept (ap (λ k. k.made) (subst (λ (k : Known _). c.seal.new.self ≡ record k { sealed = c.seal.new.self.sealed }) c.self.view_is c.in_ok-waiting.ensures.rest))
      c.loop-index.invariant.sealing (slice_get-get_or c.deref-index-items.result.now c.loop-index.index-index 0 c.loop-index-test.true)
      c.in_ok-fill_waiting.ensures.kept c.in_ok-fill_waiting.ensures.calls c.in_ok-fill_waiting.ensures.makes c.in_ok-fill_waiting.ensures.here
      c.in_ok-fill_waiting.ensures.others c.in_ok-fill_waiting.ensures.settles;
  keeps = c.in_ok-fill_waiting.ensures.keeps ∙ c.loop-index.invariant.keeps;
}

pub returns-clause-settled : goal.returns-clause-settled
returns-clause-settled g c =
    seal_settled g.T.SsaTarget.mode_of c.args.self.now c.seal.new.self c.loop-index.self (g.T.SsaTarget.shape c.args.target.now) (g.T.SsaTarget.shape c.loop-index.target) c.requires.settled c.args.block
    c.deref-index-items.result.now c.loop-index.index-index
    (subst (λ (k : Known _). c.seal.new.self ≡ record k { sealed = c.seal.new.self.sealed }) c.self.view_is c.in_ok-waiting.ensures.rest)
    (stays_sealed g.T.SsaTarget.mode_of c.args.self.now c.seal.new.self (g.T.SsaTarget.shape c.args.target.now) c.requires.settled c.args.block c.requires.there c.requires.once
    (subst (λ (k : Known _). c.seal.new.self ≡ record k { sealed = c.seal.new.self.sealed }) c.self.view_is c.in_ok-waiting.ensures.rest)
    c.in_ok-waiting.ensures.sealed
    (λ b d. c.in_ok-waiting.ensures.others b d ∙ ap (λ k. sealed_in k.sealed b) c.self.view_is))
    c.loop-index.invariant.sealing c.loop-index-test.false

pub returns-clause-makes : goal.returns-clause-makes
returns-clause-makes g c =
    seal_makes g.T.SsaTarget.mode_of c.args.self.now c.seal.new.self c.loop-index.self (g.T.SsaTarget.shape c.args.target.now) (g.T.SsaTarget.shape c.loop-index.target) c.requires.settled c.args.block
    c.deref-index-items.result.now c.loop-index.index-index
    (subst (λ (k : Known _). c.seal.new.self ≡ record k { sealed = c.seal.new.self.sealed }) c.self.view_is c.in_ok-waiting.ensures.rest)
    (stays_sealed g.T.SsaTarget.mode_of c.args.self.now c.seal.new.self (g.T.SsaTarget.shape c.args.target.now) c.requires.settled c.args.block c.requires.there c.requires.once
    (subst (λ (k : Known _). c.seal.new.self ≡ record k { sealed = c.seal.new.self.sealed }) c.self.view_is c.in_ok-waiting.ensures.rest)
    c.in_ok-waiting.ensures.sealed
    (λ b d. c.in_ok-waiting.ensures.others b d ∙ ap (λ k. sealed_in k.sealed b) c.self.view_is))
    c.loop-index.invariant.sealing c.loop-index-test.false

pub returns-clause-writes : goal.returns-clause-writes
returns-clause-writes g c =
    seal_writes g.T.SsaTarget.mode_of c.args.self.now c.seal.new.self c.loop-index.self (g.T.SsaTarget.shape c.args.target.now) (g.T.SsaTarget.shape c.loop-index.target) c.requires.settled c.args.block
    c.deref-index-items.result.now c.loop-index.index-index
    (subst (λ (k : Known _). c.seal.new.self ≡ record k { sealed = c.seal.new.self.sealed }) c.self.view_is c.in_ok-waiting.ensures.rest)
    (stays_sealed g.T.SsaTarget.mode_of c.args.self.now c.seal.new.self (g.T.SsaTarget.shape c.args.target.now) c.requires.settled c.args.block c.requires.there c.requires.once
    (subst (λ (k : Known _). c.seal.new.self ≡ record k { sealed = c.seal.new.self.sealed }) c.self.view_is c.in_ok-waiting.ensures.rest)
    c.in_ok-waiting.ensures.sealed
    (λ b d. c.in_ok-waiting.ensures.others b d ∙ ap (λ k. sealed_in k.sealed b) c.self.view_is))
    c.loop-index.invariant.sealing c.loop-index-test.false

pub returns-clause-reads : goal.returns-clause-reads
returns-clause-reads g c =
    seal_reads g.T.SsaTarget.mode_of c.args.self.now c.seal.new.self c.loop-index.self (g.T.SsaTarget.shape c.args.target.now) (g.T.SsaTarget.shape c.loop-index.target) c.requires.settled c.args.block
    c.deref-index-items.result.now c.loop-index.index-index
    (subst (λ (k : Known _). c.seal.new.self ≡ record k { sealed = c.seal.new.self.sealed }) c.self.view_is c.in_ok-waiting.ensures.rest)
    (stays_sealed g.T.SsaTarget.mode_of c.args.self.now c.seal.new.self (g.T.SsaTarget.shape c.args.target.now) c.requires.settled c.args.block c.requires.there c.requires.once
    (subst (λ (k : Known _). c.seal.new.self ≡ record k { sealed = c.seal.new.self.sealed }) c.self.view_is c.in_ok-waiting.ensures.rest)
    c.in_ok-waiting.ensures.sealed
    (λ b d. c.in_ok-waiting.ensures.others b d ∙ ap (λ k. sealed_in k.sealed b) c.self.view_is))
    c.loop-index.invariant.sealing c.loop-index-test.false

pub returns-clause-sealed : goal.returns-clause-sealed
returns-clause-sealed g c = c.loop-index.invariant.sealing.calls.sealed c.args.block ∙ c.in_ok-waiting.ensures.sealed

pub returns-clause-others : goal.returns-clause-others
returns-clause-others g c = λ b d.
    c.loop-index.invariant.sealing.calls.sealed b ∙ c.in_ok-waiting.ensures.others b d ∙ ap (λ k. sealed_in k.sealed b) c.self.view_is
