use Rattle.std.proofs.Common.{sym, arith}
use Rattle.firm_nodes.proofs.EdgeLaws.{first_found, first_missing}
use Rattle.firm_nodes.proofs.edges.place_forward.Goals as goal

pub returns-then-preds-place : goal.returns-then-preds-place
returns-then-preds-place c =
    sym (first_found c.args.from c.args.preds.now c.loop-place.place c.loop-place-test.true c.loop-place.invariant c.if-preds-place.true)

pub returns : goal.returns
returns c = sym (first_missing c.args.from c.args.preds.now (λ k lt. c.loop-place.invariant k (omega (arith, lt, c.loop-place-test.false))))
