use Rattle.std.proofs.Common.{◌≡◌, ◌<◌, ◌≤◌, ◌∙◌, sym, ap, subst, length, take, refl, arith}
use Rattle.cp_obstack.specs.Lists.{list_of}
use Rattle.firm_uses.specs.Tables.{Table, with_list}
use Rattle.firm_uses.specs.Held.{front, row_at}
use Rattle.firm_uses.proofs.HeldLaws.{row_is, many_seen, cut_rows}
use Rattle.firm_uses.proofs.rows.Rows.truncate.Goals as goal

pub returns : goal.returns
returns c =
    let lists = c.self.inside.numbers.lists in
    let rows = c.self.inside.rows.items in
    let held = ap (λ (t : Table). length t.rows) c.self.view_is in
    let there : c.args.row < length rows = omega (arith, held, c.requires.there, many_seen front lists rows) in
    let row = c.index.result.now in
    let is : row ≡ row_at rows c.args.row = row_is rows c.args.row row there c.index.ensures in
    let within = subst (λ (t : Table). c.args.len ≤ length (list_of t.rows c.args.row)) (sym c.self.view_is) c.requires.within in
    cut_rows lists rows c.args.row c.args.len row (record { span = row.span; len = c.args.len }) there is refl within
    ∙ ap (λ (t : Table). with_list t.rows c.args.row (take c.args.len (list_of t.rows c.args.row))) c.self.view_is
