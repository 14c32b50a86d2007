use Rattle.std.proofs.Common.{get_or, sym, subst, arith}
use Rattle.firm_tables.proofs.NodeLaws.{agrees}
use Rattle.firm_nodes.specs.Kept.{block_numbers}
use Rattle.firm_nodes.proofs.OrderLaws.{block_at}
use Rattle.firm_verify.specs.Tables.{EdgesWithin}
use Rattle.firm_verify.proofs.GraphLaws.{block_listed, each_more, at_blocks}
use Rattle.firm_verify.proofs.edges.edge_to_nothing.Goals as goal

pub edges_within-requires-clause-block : goal.edges_within-requires-clause-block
edges_within-requires-clause-block c = block_listed c.args.graph.now c.blocks-block-items.result.now c.loop-block.block-index (record { number = 0 }) c.blocks-block-items.ensures c.loop-block-test.true

pub returns-then-not-edges_within-clause-block : goal.returns-then-not-edges_within-clause-block
returns-then-not-edges_within-clause-block c = block_listed c.args.graph.now c.blocks-block-items.result.now c.loop-block.block-index (record { number = 0 }) c.blocks-block-items.ensures c.loop-block-test.true

pub loop-block-preserved : goal.loop-block-preserved
loop-block-preserved c =
    let g = c.args.graph.now in
    let ids = c.blocks-block-items.result.now in
    let at = c.loop-block.block-index in
    each_more (λ i. EdgesWithin g (get_or (block_numbers ids) i 0)) at c.loop-block.invariant
    (subst (EdgesWithin g) (sym (block_at ids at (record { number = 0 }) c.loop-block-test.true)) (agrees c.edges_within.result c.if-not-edges_within.false c.edges_within.ensures))

pub returns-clause-none : goal.returns-clause-none
returns-clause-none c =
    at_blocks c.args.graph.now (EdgesWithin c.args.graph.now) c.blocks-block-items.result.now c.blocks-block-items.ensures (λ i h. c.loop-block.invariant i (omega (arith, h, c.loop-block-test.false)))
