use Rattle.std.proofs.Common.{◌∙◌}
use Rattle.firm_nodes.specs.Kept.{graph_of}
use Rattle.firm_nodes.proofs.KeptLaws.{block_there, end_seen}
use Rattle.firm_nodes.proofs.graph.Graph.end_of.Goals as goal

pub end_of-requires : goal.end_of-requires
end_of-requires c =
    block_there (graph_of c.self.inside.name c.self.inside.params c.self.inside.order.items c.self.inside.blocks c.self.inside.nodes) c.args.self.now c.args.block.number c.self.view_is c.self.invariant c.requires

pub returns : goal.returns
returns c = c.end_of.ensures ∙ end_seen (graph_of c.self.inside.name c.self.inside.params c.self.inside.order.items c.self.inside.blocks c.self.inside.nodes) c.args.self.now c.args.block.number c.self.view_is
