use Rattle.std.proofs.Common.{rules, ◌∙◌, ap}
use Rattle.firm_tables.specs.Blocks.{sealed_at}
use Rattle.firm_tables.proofs.BlockLaws.{block_there, row_is, seal_set}
use Rattle.firm_tables.proofs.blocks.Blocks.seal.Goals as goal

pub index-requires : goal.index-requires
index-requires c = search (rules, block_there c.self.inside.preds.rows c.self.inside.rows.items c.args.self.now c.args.block c.self.view_is c.requires)

pub index_mut-requires : goal.index_mut-requires
index_mut-requires c = search (rules, block_there c.self.inside.preds.rows c.self.inside.rows.items c.args.self.now c.args.block c.self.view_is c.requires)

pub returns : goal.returns
returns c =
    let preds = c.self.inside.preds.rows in
    let rows = c.self.inside.rows.items in
    let there = block_there preds rows c.args.self.now c.args.block c.self.view_is c.requires in
    seal_set preds rows c.args.block c.index.result.now there (row_is rows c.args.block c.index.result.now there c.index.ensures)
    ∙ ap (λ bs. sealed_at bs c.args.block) c.self.view_is
