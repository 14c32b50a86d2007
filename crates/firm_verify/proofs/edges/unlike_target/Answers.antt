use Rattle.std.proofs.Common.{get_or, sym, subst, arith}
use Rattle.firm_tables.proofs.NodeLaws.{agrees}
use Rattle.firm_nodes.specs.Kept.{block_numbers}
use Rattle.firm_nodes.proofs.OrderLaws.{block_at}
use Rattle.firm_verify.specs.Tables.{TargetsAlike}
use Rattle.firm_verify.proofs.GraphLaws.{block_listed, each_more, at_blocks}
use Rattle.firm_verify.proofs.edges.unlike_target.Goals as goal

pub targets_alike-requires-clause-block : goal.targets_alike-requires-clause-block
targets_alike-requires-clause-block c = block_listed c.args.graph.now c.blocks-block-items.result.now c.loop-block.block-index (record { number = 0 }) c.blocks-block-items.ensures c.loop-block-test.true

pub targets_alike-requires-clause-within : goal.targets_alike-requires-clause-within
targets_alike-requires-clause-within c = c.requires (get_or c.blocks-block-items.result.now c.loop-block.block-index (record { number = 0 })).number (block_listed c.args.graph.now c.blocks-block-items.result.now c.loop-block.block-index (record { number = 0 }) c.blocks-block-items.ensures c.loop-block-test.true)

pub returns-then-not-targets_alike-clause-block : goal.returns-then-not-targets_alike-clause-block
returns-then-not-targets_alike-clause-block c = block_listed c.args.graph.now c.blocks-block-items.result.now c.loop-block.block-index (record { number = 0 }) c.blocks-block-items.ensures c.loop-block-test.true

pub loop-block-preserved : goal.loop-block-preserved
loop-block-preserved c =
    let g = c.args.graph.now in
    let ids = c.blocks-block-items.result.now in
    let at = c.loop-block.block-index in
    each_more (λ i. TargetsAlike g (get_or (block_numbers ids) i 0)) at c.loop-block.invariant
    (subst (TargetsAlike g) (sym (block_at ids at (record { number = 0 }) c.loop-block-test.true)) (agrees c.targets_alike.result c.if-not-targets_alike.false c.targets_alike.ensures))

pub returns-clause-none : goal.returns-clause-none
returns-clause-none c =
    at_blocks c.args.graph.now (TargetsAlike c.args.graph.now) c.blocks-block-items.result.now c.blocks-block-items.ensures (λ i h. c.loop-block.invariant i (omega (arith, h, c.loop-block-test.false)))
