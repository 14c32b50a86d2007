use Rattle.firm_verify.proofs.LoopLaws.{source_listed, no_sources}
use Rattle.firm_verify.proofs.loops.bad_source.Goals as goal

pub is_bad_loop-requires-clause-edge : goal.is_bad_loop-requires-clause-edge
is_bad_loop-requires-clause-edge c = source_listed c.args.graph.now c.args.head.number c.preds-last-items.result.now c.loop-last.last-index c.preds-last-items.ensures c.loop-last-test.true

pub returns-clause-none : goal.returns-clause-none
returns-clause-none c = no_sources c.args.graph.now c.args.head.number c.preds-last-items.result.now c.loop-last.last-index c.preds-last-items.ensures c.loop-last-test.false c.loop-last.invariant
