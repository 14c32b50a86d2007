use Rattle.std.proofs.Common.{refl, ◌∙◌, ap, subst, arith}
use Rattle.std.proofs.lemmas.List.{take_more}
use Rattle.ssa_core.specs.Steps.{IsTrailNoted}
use Rattle.ssa_core.specs.Known.{Known}
use Rattle.ssa_core.proofs.Finding.{noted_none, noted_more}
use Rattle.ssa_core.proofs.Filling.{taken_all}
use Rattle.ssa_core.proofs.notes.Notes.note_trail.Goals as goal

pub loop-block-init : goal.loop-block-init
loop-block-init g c = record { rest = refl; noted = noted_none _ _ _ _ }

pub loop-block-preserved : goal.loop-block-preserved
loop-block-preserved g c = record {
  rest = c.in_ok-note_passed.ensures.rest ∙ ap (λ (k : Known _). record k { passed = c.note_passed.new.self.passed }) c.loop-block.invariant.rest;
  noted =
      noted_more c.args.self.now.passed c.loop-block.self.passed c.note_passed.new.self.passed c.args.var _ _ _ c.args.stop c.loop-block.invariant.noted
      c.in_ok-note_passed.ensures.puts (take_more c.args.trail.now c.loop-block.block-index _ c.loop-block-test.true);
}

pub returns-clause-noted : goal.returns-clause-noted
returns-clause-noted g c =
    subst (λ xs. IsTrailNoted c.args.self.now.passed c.loop-block.self.passed c.args.var xs c.args.stop)
    (taken_all c.args.trail.now c.loop-block.block-index (omega arith)) c.loop-block.invariant.noted
