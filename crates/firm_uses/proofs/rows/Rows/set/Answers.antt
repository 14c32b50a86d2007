use Rattle.std.proofs.Common.{◌≡◌, ◌<◌, ◌∙◌, ap, map, length, arith, set}
use Rattle.cp_obstack.specs.Lists.{list_of, with_number, Lists}
use Rattle.firm_uses.specs.Tables.{Table, with_list}
use Rattle.firm_uses.specs.declared.rows.Row.{Row}
use Rattle.firm_uses.specs.Held.{seen, front, room, span_at}
use Rattle.firm_uses.proofs.HeldLaws.{row_is, many_seen, set_rows, set_room}
use Rattle.firm_uses.proofs.rows.Rows.set.Goals as goal

pub returns-clause-rows : goal.returns-clause-rows
returns-clause-rows c =
    let lists = c.self.inside.numbers.lists in
    let rows = c.self.inside.rows.items in
    let held = ap (λ (t : Table). length t.rows) c.self.view_is in
    let there : c.args.row < length rows = omega (arith, held, c.requires.there, many_seen front lists rows) in
    let span_is : c.index.result.now.span.number ≡ span_at rows c.args.row = ap (λ (r : Row). r.span.number) (row_is rows c.args.row c.index.result.now there c.index.ensures) in
    let lists_are : c.set.new.self.lists ≡ with_number lists (span_at rows c.args.row) c.args.index c.args.value =
    ap (λ (v : Lists). v.lists) c.set.ensures ∙ ap (λ s. with_number lists s c.args.index c.args.value) span_is in
    ap (λ ls. map (seen front ls) rows) lists_are ∙ set_rows lists rows c.args.row c.args.index c.args.value c.self.invariant there
    ∙ ap (λ (t : Table). with_list t.rows c.args.row (set (list_of t.rows c.args.row) c.args.index c.args.value)) c.self.view_is

pub returns-clause-room : goal.returns-clause-room
returns-clause-room c =
    let lists = c.self.inside.numbers.lists in
    let rows = c.self.inside.rows.items in
    let held = ap (λ (t : Table). length t.rows) c.self.view_is in
    let there : c.args.row < length rows = omega (arith, held, c.requires.there, many_seen front lists rows) in
    let span_is : c.index.result.now.span.number ≡ span_at rows c.args.row = ap (λ (r : Row). r.span.number) (row_is rows c.args.row c.index.result.now there c.index.ensures) in
    let lists_are : c.set.new.self.lists ≡ with_number lists (span_at rows c.args.row) c.args.index c.args.value =
    ap (λ (v : Lists). v.lists) c.set.ensures ∙ ap (λ s. with_number lists s c.args.index c.args.value) span_is in
    ap (λ ls. map (seen room ls) rows) lists_are ∙ set_room lists rows c.args.row c.args.index c.args.value c.self.invariant there
    ∙ ap (λ (t : Table). t.room) c.self.view_is
