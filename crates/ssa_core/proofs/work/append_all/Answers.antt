use Rattle.std.proofs.Common.{Some, refl, sym, ◌∙◌, ap, subst, arith}
use Rattle.std.proofs.lemmas.Option.{slice_get-get_or}
use Rattle.ssa_core.specs.Steps.{IsFilled}
use Rattle.ssa_core.proofs.Filling.{decide_by, filled_by_none, filled_more, there_filled, taken_more, taken_all, room_left}
use Rattle.ssa_core.proofs.work.append_all.Goals as goal

pub loop-operand-init : goal.loop-operand-init
loop-operand-init g c = record { filled = filled_by_none (g.T.SsaTarget.shape c.args.target.now) c.args.phi c.requires.empty; keeps = refl }

pub append-requires-clause-is_phi : goal.append-requires-clause-is_phi
append-requires-clause-is_phi g c = record { operands = _; is = c.loop-operand.invariant.filled.kind_is }

pub append-requires-clause-there : goal.append-requires-clause-there
append-requires-clause-there g c =
    there_filled (decide_by g.T.Value.PartialEq.eq g.met.T.SsaTarget.same g.met.T.SsaTarget.equal) (g.T.SsaTarget.shape c.args.target.now)
    (g.T.SsaTarget.shape c.loop-operand.target) c.args.phi _ c.loop-operand.invariant.filled c.operand-item.result
    (c.requires.there c.loop-operand.operand-index c.operand-item.result
    (slice_get-get_or c.args.operands.now c.loop-operand.operand-index c.operand-item.result c.loop-operand-test.true ∙ ap Some (sym c.operand-item.is)))

pub append-requires-clause-alike : goal.append-requires-clause-alike
append-requires-clause-alike g c =
    (c.loop-operand.invariant.filled.places c.operand-item.result).mode
    ∙ c.requires.alike c.loop-operand.operand-index c.operand-item.result
    (slice_get-get_or c.args.operands.now c.loop-operand.operand-index c.operand-item.result c.loop-operand-test.true ∙ ap Some (sym c.operand-item.is))
    ∙ sym (c.loop-operand.invariant.filled.places c.args.phi).mode

pub loop-operand-preserved : goal.loop-operand-preserved
loop-operand-preserved g c = record {
  filled =
      filled_more (g.T.SsaTarget.shape c.args.target.now) (g.T.SsaTarget.shape c.loop-operand.target) (g.T.SsaTarget.shape c.append.new.self) c.args.phi
      c.operand-item.result _ _ c.loop-operand.invariant.filled c.in_ok-append.ensures.appended
      (taken_more c.args.operands.now c.loop-operand.operand-index c.operand-item.result c.loop-operand-test.true c.operand-item.is);
  keeps = c.in_ok-append.ensures.keeps ∙ c.loop-operand.invariant.keeps;
}

pub returns-clause-filled : goal.returns-clause-filled
returns-clause-filled g c =
    subst (λ xs. IsFilled (g.T.SsaTarget.shape c.args.target.now) (g.T.SsaTarget.shape c.loop-operand.target) c.args.phi xs)
    (taken_all c.args.operands.now c.loop-operand.operand-index (omega arith)) c.loop-operand.invariant.filled

pub append-requires-clause-room : goal.append-requires-clause-room
append-requires-clause-room g c = λ operands is.
    room_left (g.T.SsaTarget.shape c.args.target.now) (g.T.SsaTarget.shape c.loop-operand.target) c.args.phi c.args.operands.now c.loop-operand.operand-index operands
    c.loop-operand.invariant.filled c.loop-operand-test.true c.requires.room is
