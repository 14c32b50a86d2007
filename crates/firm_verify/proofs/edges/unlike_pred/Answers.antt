use Rattle.std.proofs.Common.{get_or, sym, ◌∙◌, subst, arith}
use Rattle.firm_nodes.specs.Kept.{block_numbers}
use Rattle.firm_nodes.proofs.OrderLaws.{block_at}
use Rattle.firm_rules.specs.declared.node.BlockId.{BlockId}
use Rattle.firm_verify.specs.Tables.{PredsAlike, IsUnlike}
use Rattle.firm_verify.proofs.EdgeLaws.{none_fits}
use Rattle.firm_verify.proofs.GraphLaws.{block_listed, each_more, at_blocks}
use Rattle.firm_verify.proofs.edges.unlike_pred.Goals as goal

pub unlike_pred_of-found-requires-clause-to : goal.unlike_pred_of-found-requires-clause-to
unlike_pred_of-found-requires-clause-to c = block_listed c.args.graph.now c.blocks-block-items.result.now c.loop-block.block-index (record { number = 0 }) c.blocks-block-items.ensures c.loop-block-test.true

pub unlike_pred_of-found-requires-clause-within : goal.unlike_pred_of-found-requires-clause-within
unlike_pred_of-found-requires-clause-within c = c.requires (get_or c.blocks-block-items.result.now c.loop-block.block-index (record { number = 0 })).number (block_listed c.args.graph.now c.blocks-block-items.result.now c.loop-block.block-index (record { number = 0 }) c.blocks-block-items.ensures c.loop-block-test.true)

pub loop-block-preserved : goal.loop-block-preserved
loop-block-preserved c =
    let g = c.args.graph.now in
    let ids = c.blocks-block-items.result.now in
    let at = c.loop-block.block-index in
    each_more (λ i. PredsAlike g (get_or (block_numbers ids) i 0)) at c.loop-block.invariant
    (subst (PredsAlike g) (sym (block_at ids at (record { number = 0 }) c.loop-block-test.true)) (none_fits c.unlike_pred_of-found.result (λ (b : BlockId). IsUnlike g b.number) (PredsAlike g (get_or ids at (record { number = 0 })).number) (sym c.is_some.ensures ∙ c.if-is_some.false) c.unlike_pred_of-found.ensures.none))

pub returns-clause-none : goal.returns-clause-none
returns-clause-none c =
    at_blocks c.args.graph.now (PredsAlike c.args.graph.now) c.blocks-block-items.result.now c.blocks-block-items.ensures (λ i h. c.loop-block.invariant i (omega (arith, h, c.loop-block-test.false)))
