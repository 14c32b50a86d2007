use Rattle.firm_verify.proofs.LastLaws.{are_chains}
use Rattle.firm_verify.proofs.takes.check_walks.Goals as goal

pub coming_of-requires-clause-chains : goal.coming_of-requires-clause-chains
coming_of-requires-clause-chains c = are_chains c.args.graph.now _ c.args.nexts.now c.requires.rule1 c.requires.rule3 c.requires.firsts c.requires.nexts c.requires.phis (c.in_ok-lasts.ensures {u = tt}) c.first_start.ensures

pub unfit_memory-requires-clause-chains : goal.unfit_memory-requires-clause-chains
unfit_memory-requires-clause-chains c = are_chains c.args.graph.now _ c.args.nexts.now c.requires.rule1 c.requires.rule3 c.requires.firsts c.requires.nexts c.requires.phis (c.in_ok-lasts.ensures {u = tt}) c.first_start.ensures
