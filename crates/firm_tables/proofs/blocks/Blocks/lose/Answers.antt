use Rattle.std.proofs.Common.{◌∙◌, ◌<◌, sym, ap₂, subst, length}
use Rattle.std.specs.List.{remove}
use Rattle.cp_obstack.specs.Lists.{list_of}
use Rattle.firm_tables.specs.Blocks.{with_preds}
use Rattle.firm_tables.proofs.BlockLaws.{list_there, seen_preds, preds_are}
use Rattle.firm_tables.proofs.blocks.Blocks.lose.Goals as goal

pub remove-requires-clause-there : goal.remove-requires-clause-there
remove-requires-clause-there c = list_there c.self.inside.preds.rows c.self.inside.rows.items c.args.self.now c.args.block c.self.view_is c.self.invariant.0 c.requires.there

pub remove-requires-clause-within : goal.remove-requires-clause-within
remove-requires-clause-within c =
    subst (λ l. c.args.index < length l) (sym (seen_preds c.self.inside.preds.rows c.self.inside.rows.items c.args.self.now c.args.block c.self.view_is c.requires.there)) c.requires.within

pub returns : goal.returns
returns c =
    let preds = c.self.inside.preds.rows in
    let rows = c.self.inside.rows.items in
    let there = list_there preds rows c.args.self.now c.args.block c.self.view_is c.self.invariant.0 c.requires.there in
    preds_are preds c.remove.new.self.rows rows c.args.block (remove (list_of preds c.args.block) c.args.index) there c.remove.ensures
    ∙ ap₂ (λ bs l. with_preds bs c.args.block (remove l c.args.index)) c.self.view_is (seen_preds preds rows c.args.self.now c.args.block c.self.view_is c.requires.there)
