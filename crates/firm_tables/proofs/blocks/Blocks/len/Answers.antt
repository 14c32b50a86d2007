use Rattle.std.proofs.Common.{ap, length, arith}
use Rattle.firm_tables.proofs.BlockLaws.{blocks_long}
use Rattle.firm_tables.proofs.blocks.Blocks.len.Goals as goal

pub returns : goal.returns
returns c = omega (arith, c.len.ensures, ap length c.self.view_is, blocks_long 0 c.self.inside.preds.rows c.self.inside.rows.items)
