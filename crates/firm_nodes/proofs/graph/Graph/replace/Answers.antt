use Rattle.firm_nodes.specs.Kept.{block_numbers}
use Rattle.firm_nodes.proofs.KeptLaws.{kept_renamed}
use Rattle.firm_nodes.proofs.graph.Graph.replace.Goals as goal

pub invariant_of-self-2 : goal.invariant_of-self-2
invariant_of-self-2 c =
    kept_renamed (block_numbers c.self.inside.order.items) c.self.inside.blocks c.rename.new.self c.args.old.number c.args.to.number c.self.invariant c.rename.ensures
