use Rattle.std.proofs.Common.{◌+◌}
use Rattle.firm_tables.proofs.NodeLaws.{refuses}
use Rattle.firm_verify.proofs.GraphLaws.{block_listed}
use Rattle.firm_verify.proofs.LoopLaws.{side_more, no_side, within_order}
use Rattle.firm_verify.proofs.loops.has_side_entry.Goals as goal

pub preds-requires : goal.preds-requires
preds-requires c =
    block_listed c.args.graph.now c.blocks-order.result.now (c.loop-place.place + 1) (record { number = 0 }) c.blocks-order.ensures
    (within_order c.args.graph.now c.blocks-order.result.now c.loop-place.place c.args.high c.blocks-order.ensures c.loop-place-test.true c.requires.high)

pub loop-place-preserved : goal.loop-place-preserved
loop-place-preserved c =
    side_more c.args.graph.now c.blocks-order.result.now (record { number = 0 }) c.args.low c.args.high c.loop-place.place c.preds.result.now
    (within_order c.args.graph.now c.blocks-order.result.now c.loop-place.place c.args.high c.blocks-order.ensures c.loop-place-test.true c.requires.high) c.preds.ensures c.loop-place.invariant
    (refuses c.has_outside.result c.if-has_outside.false c.has_outside.ensures)

pub returns : goal.returns
returns c = no_side c.args.graph.now c.blocks-order.result.now c.args.low c.args.high c.loop-place.place c.blocks-order.ensures c.loop-place-test.false c.loop-place.invariant
