use Rattle.std.proofs.Common.{◌∙◌}
use Rattle.firm_text.proofs.SortedLaws.{nodes_there}
use Rattle.firm_text.proofs.blocks.put_block.Goals as goal

pub put_nodes-requires : goal.put_nodes-requires
put_nodes-requires c index h =
    nodes_there c.args.graph.now c.args.block.number c.as_slice.result.now index (c.as_slice.ensures.value ∙ c.in_ok-nodes.ensures) h
