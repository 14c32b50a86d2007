use Rattle.std.proofs.Common.{◌∙◌}
use Rattle.firm_nodes.proofs.EdgeLaws.{last_here, last_before}
use Rattle.firm_nodes.proofs.edges.place_back.Goals as goal
use Rattle.firm_nodes.proofs.edges.place_back.Goals.{then-preds-place, else-preds-place}

pub loop-place-preserved : goal.loop-place-preserved
loop-place-preserved c = elim c.if-preds-place.branch [
  | then-preds-place w ↦ w.found-is ∙ last_here c.args.from c.args.preds.now c.loop-place.place c.loop-place-test.true w.if-preds-place.true
  | else-preds-place w ↦ w.found-is
      ∙ last_before c.args.from c.args.preds.now c.loop-place.place c.loop-place.found c.loop-place-test.true w.if-preds-place.false c.loop-place.invariant
]
