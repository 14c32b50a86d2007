use Rattle.std.proofs.Common.{◌∙◌}
use Rattle.firm_nodes.specs.Kept.{graph_of}
use Rattle.firm_nodes.proofs.KeptLaws.{block_there, preds_seen}
use Rattle.firm_nodes.proofs.graph.Graph.preds.Goals as goal

pub preds-requires : goal.preds-requires
preds-requires c =
    block_there (graph_of c.self.inside.name c.self.inside.params c.self.inside.order.items c.self.inside.blocks c.self.inside.nodes) c.args.self.now c.args.block.number c.self.view_is c.self.invariant c.requires

pub returns : goal.returns
returns c = c.preds.ensures ∙ preds_seen (graph_of c.self.inside.name c.self.inside.params c.self.inside.order.items c.self.inside.blocks c.self.inside.nodes) c.args.self.now c.args.block.number c.self.view_is
