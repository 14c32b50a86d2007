use Rattle.std.proofs.Common.{get_or, refl}
use Rattle.firm_text.specs.Text.{block_text}
use Rattle.firm_text.proofs.PlaceLaws.{block_found}
use Rattle.firm_text.proofs.PrintLaws.{one_more, all_mapped}
use Rattle.firm_text.proofs.blocks.put_blocks.Goals as goal

pub put_block-requires-clause-block : goal.put_block-requires-clause-block
put_block-requires-clause-block c =
    block_found c.blocks-blocks.result.now c.args.graph.now.order c.loop-block.block-index record { number = 0 } c.loop-block-test.true c.blocks-blocks.ensures

pub loop-block-preserved : goal.loop-block-preserved
loop-block-preserved c =
    one_more (λ block. block_text c.args.graph.now block.number) c.args.out.now c.loop-block.out c.put_block.new.out c.blocks-blocks.result.now
    c.loop-block.block-index (get_or c.blocks-blocks.result.now c.loop-block.block-index record { number = 0 }) record { number = 0 } c.loop-block-test.true refl
    c.loop-block.invariant c.in_ok-put_block.ensures

pub returns : goal.returns
returns c =
    all_mapped (block_text c.args.graph.now) (λ block. block.number) c.args.out.now c.loop-block.out c.blocks-blocks.result.now c.args.graph.now.order
    c.loop-block.block-index c.loop-block-test.false c.blocks-blocks.ensures c.loop-block.invariant
