use Rattle.std.proofs.Common.{Some}
use Rattle.firm_nodes.specs.Kept.{graph_of, block_numbers}
use Rattle.firm_nodes.proofs.KeptLaws.{block_there, targets_there, linked_there, kept_ended}
use Rattle.firm_nodes.proofs.graph.Graph.end.Goals as goal

pub link-requires : goal.link-requires
link-requires c = targets_there (graph_of c.self.inside.name c.self.inside.params c.self.inside.order.items c.self.inside.blocks c.self.inside.nodes) c.args.self.now (Some c.args.end) c.self.view_is c.self.invariant c.requires.targets

pub set_end-requires : goal.set_end-requires
set_end-requires c =
    linked_there c.self.inside.blocks c.link.new.self c.args.block.number c.args.end c.in_ok-link.ensures.ok
    (block_there (graph_of c.self.inside.name c.self.inside.params c.self.inside.order.items c.self.inside.blocks c.self.inside.nodes) c.args.self.now c.args.block.number c.self.view_is c.self.invariant c.requires.block)

pub invariant_of-self-2 : goal.invariant_of-self-2
invariant_of-self-2 c =
    kept_ended (block_numbers c.self.inside.order.items) c.self.inside.blocks c.link.new.self c.set_end.new.self c.args.block.number c.args.end c.self.invariant
    (block_there (graph_of c.self.inside.name c.self.inside.params c.self.inside.order.items c.self.inside.blocks c.self.inside.nodes) c.args.self.now c.args.block.number c.self.view_is c.self.invariant c.requires.block)
    (targets_there (graph_of c.self.inside.name c.self.inside.params c.self.inside.order.items c.self.inside.blocks c.self.inside.nodes) c.args.self.now (Some c.args.end) c.self.view_is c.self.invariant c.requires.targets) c.in_ok-link.ensures.ok c.set_end.ensures
