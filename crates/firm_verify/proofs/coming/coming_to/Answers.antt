use Rattle.firm_verify.proofs.ComingLaws.{found_none, found_turn}
use Rattle.firm_verify.proofs.coming.coming_to.Goals as goal

pub loop-pred-preserved : goal.loop-pred-preserved
loop-pred-preserved c =
    found_turn c.args.graph.now c.args.chains.now c.args.coming.now c.args.block.number c.preds-pred-items.result.now c.loop-pred.pred-index c.loop-pred.found c.brought.result c.joined-found.result
    c.requires.chains c.requires.seen c.preds-pred-items.ensures c.loop-pred-test.true c.brought.ensures c.joined-found.ensures c.loop-pred.invariant

pub loop-pred-init : goal.loop-pred-init
loop-pred-init c = found_none c.args.graph.now c.args.chains.now c.args.coming.now c.args.block.number c.preds-pred-items.result.now c.get_at-found.result c.requires.seen c.get_at-found.ensures
