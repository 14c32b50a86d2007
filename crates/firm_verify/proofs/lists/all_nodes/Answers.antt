use Rattle.std.proofs.Common.{sym, get_or}
use Rattle.firm_tables.specs.Nodes.{numbers}
use Rattle.firm_nodes.proofs.OrderLaws.{block_at}
use Rattle.firm_verify.proofs.GraphLaws.{no_nodes, nodes_more, nodes_done, block_listed}
use Rattle.firm_verify.proofs.lists.all_nodes.Goals as goal

pub loop-block-init : goal.loop-block-init
loop-block-init c = no_nodes c.args.graph.now c.new-nodes.result.items c.new-nodes.ensures.items

pub nodes-requires : goal.nodes-requires
nodes-requires c = block_listed c.args.graph.now c.blocks-block-items.result.now c.loop-block.block-index (record { number = 0 }) c.blocks-block-items.ensures c.loop-block-test.true

pub loop-block-preserved : goal.loop-block-preserved
loop-block-preserved c =
    let ids = c.blocks-block-items.result.now in
    let at = c.loop-block.block-index in
    nodes_more c.args.graph.now ids at (get_or ids at (record { number = 0 })).number (numbers c.loop-block.nodes.items) (numbers c.add_all.new.nodes.items) (numbers c.nodes.result.now)
    c.blocks-block-items.ensures c.loop-block-test.true c.loop-block.invariant (sym (block_at ids at (record { number = 0 }) c.loop-block-test.true)) c.nodes.ensures c.in_ok-add_all.ensures

pub returns : goal.returns
returns c = nodes_done c.args.graph.now c.blocks-block-items.result.now c.loop-block.block-index (numbers c.loop-block.nodes.items) c.requires c.blocks-block-items.ensures c.loop-block-test.false c.loop-block.invariant
