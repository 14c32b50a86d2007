use Rattle.std.proofs.Common.{rules, ap}
use Rattle.firm_rules.specs.Graphs.{FirmBlock}
use Rattle.firm_tables.proofs.BlockLaws.{block_there, seen_block}
use Rattle.firm_tables.proofs.blocks.Blocks.end_of.Goals as goal

pub index-requires : goal.index-requires
index-requires c = search (rules, block_there c.self.inside.preds.rows c.self.inside.rows.items c.args.self.now c.args.block c.self.view_is c.requires)

pub returns : goal.returns
returns c =
    ap (λ (block : FirmBlock). block.end)
    (seen_block c.self.inside.preds.rows c.self.inside.rows.items c.args.self.now c.args.block c.index.result.now c.self.view_is c.requires c.index.ensures)
