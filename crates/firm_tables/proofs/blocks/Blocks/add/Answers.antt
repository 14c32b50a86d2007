use Rattle.std.proofs.Common.{◌∙◌, ap, length, arith}
use Rattle.firm_tables.specs.Blocks.{new_block}
use Rattle.std.proofs.Common.{◌++◌, ◌∷◌, []}
use Rattle.firm_tables.specs.Held.{blocks_from}
use Rattle.firm_tables.proofs.BlockLaws.{any_err, blocks_long, blocks_same, block_made, in_time, no_block}
use Rattle.firm_tables.proofs.blocks.Blocks.add.Goals as goal

pub returns-in_err-list_for-clause-err : goal.returns-in_err-list_for-clause-err
returns-in_err-list_for-clause-err c =
    any_err c.from_residual-in_err-list_for.result
    (ap (λ rs. blocks_from 0 c.list_for.new.preds.rows rs) c.reserve.ensures.items
    ∙ blocks_same 0 c.self.inside.preds.rows c.list_for.new.preds.rows c.self.inside.rows.items (λ k lo hi. c.list_for.ensures.same k)
    ∙ c.self.view_is)

pub returns-clause-ok : goal.returns-clause-ok
returns-clause-ok c =
    let preds = c.self.inside.preds.rows in
    let rows = c.self.inside.rows.items in
    let pushed = in_time c.push.result c.push.new.self.items c.reserve.new.self.items rows no_block (c.push.ensures.succeeds (omega (arith, c.in_ok-reserve.ensures.ok))) c.push.ensures.items
    c.reserve.ensures.items in
    ap (λ rs. blocks_from 0 c.list_for.new.preds.rows rs) pushed
    ∙ block_made preds c.list_for.new.preds.rows rows (c.self.invariant.0.empty (length rows) (omega arith)) c.list_for.ensures.same
    ∙ ap (λ bs. bs ++ new_block ∷ []) c.self.view_is

pub returns-clause-number : goal.returns-clause-number
returns-clause-number c = omega (arith, c.len-number.ensures, ap length c.self.view_is, blocks_long 0 c.self.inside.preds.rows c.self.inside.rows.items)
