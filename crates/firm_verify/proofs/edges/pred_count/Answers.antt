use Rattle.firm_verify.proofs.EdgeLaws.{one_more, no_more}
use Rattle.firm_verify.proofs.edges.pred_count.Goals as goal
use Rattle.firm_verify.proofs.edges.pred_count.Goals.{then-pred-from, else-pred-from}

pub loop-pred-preserved : goal.loop-pred-preserved
loop-pred-preserved c = elim c.if-pred-from.branch [
  | then-pred-from w ↦ one_more c.args.from c.args.preds.now c.loop-pred.pred-index c.loop-pred.count c.loop-pred-test.true w.if-pred-from.true c.loop-pred.invariant c.if-pred-from.count w.count-is
  | else-pred-from w ↦ no_more c.args.from c.args.preds.now c.loop-pred.pred-index c.loop-pred.count c.loop-pred-test.true w.if-pred-from.false c.loop-pred.invariant c.if-pred-from.count w.count-is
]
