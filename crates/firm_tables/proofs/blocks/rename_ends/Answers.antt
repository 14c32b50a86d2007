use Rattle.firm_tables.proofs.BlockLaws.{row_turn}
use Rattle.firm_tables.proofs.blocks.rename_ends.Goals as goal

pub loop-block-preserved : goal.loop-block-preserved
loop-block-preserved c = (
  row_turn c.args.old c.args.to c.args.rows.now c.loop-block.rows c.loop-block.block c.renamed_end-end.result c.loop-block-test.true c.loop-block.invariant.0 c.renamed_end-end.ensures,
  c.loop-block.invariant.1,
)
