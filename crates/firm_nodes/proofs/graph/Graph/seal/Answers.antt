use Rattle.firm_nodes.specs.Kept.{graph_of}
use Rattle.firm_nodes.proofs.KeptLaws.{block_there}
use Rattle.firm_nodes.proofs.graph.Graph.seal.Goals as goal

pub seal-requires : goal.seal-requires
seal-requires c =
    block_there (graph_of c.self.inside.name c.self.inside.params c.self.inside.order.items c.self.inside.blocks c.self.inside.nodes) c.args.self.now c.args.block.number c.self.view_is c.self.invariant c.requires
