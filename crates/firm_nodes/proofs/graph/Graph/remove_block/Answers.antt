use Rattle.firm_nodes.specs.Kept.{block_numbers}
use Rattle.firm_nodes.proofs.OrderLaws.{place}
use Rattle.firm_nodes.proofs.KeptLaws.{kept_removed}
use Rattle.firm_nodes.proofs.graph.Graph.remove_block.Goals as goal

pub invariant_of-self : goal.invariant_of-self
invariant_of-self c =
    kept_removed (block_numbers c.self.inside.order.items) (block_numbers c.take_out.new.order.items) c.self.inside.blocks
    (place c.args.block.number (block_numbers c.self.inside.order.items)) c.self.invariant c.take_out.ensures
