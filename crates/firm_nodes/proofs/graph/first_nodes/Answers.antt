use Rattle.firm_nodes.proofs.LikeLaws.{entry_more}
use Rattle.firm_nodes.proofs.graph.first_nodes.Goals as goal

pub loop-param-preserved : goal.loop-param-preserved
loop-param-preserved c = entry_more c.loop-param.nodes c.add-in-loop-param.new.self c.loop-param.param c.loop-param.invariant c.in_ok-add-2.ensures.ok
