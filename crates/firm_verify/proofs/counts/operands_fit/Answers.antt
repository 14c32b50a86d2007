use Rattle.firm_verify.proofs.CountsLaws.{fit_in}
use Rattle.firm_verify.proofs.counts.operands_fit.Goals as goal

pub returns : goal.returns
returns c = fit_in c.args.graph.now c.args.modes.now c.args.node.number c.node.result.op c.operands.result.now c.fit.result c.requires.modes c.node.ensures.op c.operands.ensures c.fit.ensures
