use Rattle.std.proofs.Common.{◌∙◌}
use Rattle.firm_tables.proofs.BlockLaws.{list_there, seen_preds}
use Rattle.firm_tables.proofs.blocks.Blocks.preds.Goals as goal

pub list-requires : goal.list-requires
list-requires c = list_there c.self.inside.preds.rows c.self.inside.rows.items c.args.self.now c.args.block c.self.view_is c.self.invariant.0 c.requires

pub returns : goal.returns
returns c = c.list.ensures ∙ seen_preds c.self.inside.preds.rows c.self.inside.rows.items c.args.self.now c.args.block c.self.view_is c.requires
