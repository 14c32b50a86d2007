use Rattle.std.proofs.Common.{arith}
use Rattle.c_types.proofs.OrderLaws.{within_limit}
use Rattle.c_types.proofs.in_order.offsets_of.Goals as goal

pub least_multiple-at-requires-clause-room : goal.least_multiple-at-requires-clause-room
least_multiple-at-requires-clause-room c =
    let h = within_limit c.args.measures.now c.loop-measure.measure-index c.loop-measure.end _ (record { size = 0; align = 0 }) c.loop-measure-test.true c.requires.aligned c.loop-measure.invariant.ends c.requires.fits in omega (arith, h.0)

pub overflow_cast-at : goal.overflow_cast-at
overflow_cast-at c =
    let h = within_limit c.args.measures.now c.loop-measure.measure-index c.loop-measure.end _ (record { size = 0; align = 0 }) c.loop-measure-test.true c.requires.aligned c.loop-measure.invariant.ends c.requires.fits in
    omega (arith, h.1, c.least_multiple-at.ensures.is)

pub overflow_add-end : goal.overflow_add-end
overflow_add-end c =
    let h = within_limit c.args.measures.now c.loop-measure.measure-index c.loop-measure.end _ (record { size = 0; align = 0 }) c.loop-measure-test.true c.requires.aligned c.loop-measure.invariant.ends c.requires.fits in
    omega (arith, h.1, c.least_multiple-at.ensures.is, c.from.type_inv)
