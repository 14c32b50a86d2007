use Rattle.std.proofs.Common.{◌∙◌, ◌<◌, sym, ap, length, arith, get_or}
use Rattle.cp_obstack.specs.Lists.{list_of}
use Rattle.firm_uses.specs.Tables.{Table}
use Rattle.firm_uses.proofs.EditLaws.{rename_then, rename_else}
use Rattle.firm_uses.proofs.rows.Rows.rename.Goals as goal
use Rattle.firm_uses.proofs.rows.Rows.rename.Goals.{then-list-index, else-list-index}

pub loop-index-preserved : goal.loop-index-preserved
loop-index-preserved c =
    let rows = c.args.self.now.rows in
    let now = c.loop-index.self.rows in
    let row = c.args.row in
    let at = c.loop-index.index in
    let within : at < length (list_of rows row) = omega (arith, c.loop-index-test.true, c.loop-index.invariant.1) in
    let read = ap (λ l. get_or l at 0) c.list.ensures in
    elim c.if-list-index.branch [
      | then-list-index w ↦ (
        ap (λ (t : Table). t.rows) w.self-is ∙ w.set.ensures.rows
            ∙ rename_then rows now row c.args.old c.args.to at c.requires within c.loop-index.invariant.0 (sym read ∙ w.if-list-index.true),
        c.loop-index.invariant.1,
      )
      | else-list-index w ↦ (
        ap (λ (t : Table). t.rows) w.self-is
            ∙ rename_else rows now row c.args.old c.args.to at c.requires within c.loop-index.invariant.0 (λ e. w.if-list-index.false (read ∙ e)),
        c.loop-index.invariant.1,
      )
    ]
