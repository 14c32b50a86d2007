use Rattle.std.proofs.Common.{◌≡◌, ◌∷◌, [], ◌++◌, ◌+◌, ◌<◌, ◌∙◌, sym, ap, subst, map, length, refl, arith, set, get_or}
use Rattle.cp_obstack.specs.Lists.{list_of, with_number, Lists}
use Rattle.firm_uses.specs.Tables.{Table, with_list, room_of}
use Rattle.firm_uses.specs.declared.rows.Row.{Row}
use Rattle.firm_uses.specs.Held.{seen, front, room, row_at, span_at, AreApart}
use Rattle.firm_uses.proofs.HeldLaws.{row_is, many_seen, has_space, put_rows, put_apart, put_room}
use Rattle.firm_uses.proofs.rows.Rows.put.Goals as goal

pub invariant_of-self : goal.invariant_of-self
invariant_of-self c =
    let lists = c.self.inside.numbers.lists in
    let rows = c.self.inside.rows.items in
    let held = ap (λ (t : Table). length t.rows) c.self.view_is in
    let there : c.args.row < length rows = omega (arith, held, c.requires.there, many_seen front lists rows) in
    let row = c.index.result.now in
    let is : row ≡ row_at rows c.args.row = row_is rows c.args.row row there c.index.ensures in
    let some = subst (λ (t : Table). 0 < room_of t c.args.row) (sym c.self.view_is) c.requires.room in
    let space : row.len < length (list_of lists (span_at rows c.args.row)) = omega (arith, has_space lists rows c.args.row there some, ap (λ (r : Row). r.len) is) in
    let lists_are : c.set.new.self.lists ≡ with_number lists row.span.number row.len c.args.value = ap (λ (v : Lists). v.lists) c.set.ensures in
    let next : Row = record { span = row.span; len = row.len + 1 } in
    subst (λ ls. AreApart ls (set rows c.args.row next)) (sym lists_are) (put_apart lists rows c.args.row c.args.value row next c.self.invariant there is refl space)

pub returns-clause-rows : goal.returns-clause-rows
returns-clause-rows c =
    let lists = c.self.inside.numbers.lists in
    let rows = c.self.inside.rows.items in
    let held = ap (λ (t : Table). length t.rows) c.self.view_is in
    let there : c.args.row < length rows = omega (arith, held, c.requires.there, many_seen front lists rows) in
    let row = c.index.result.now in
    let is : row ≡ row_at rows c.args.row = row_is rows c.args.row row there c.index.ensures in
    let some = subst (λ (t : Table). 0 < room_of t c.args.row) (sym c.self.view_is) c.requires.room in
    let space : row.len < length (list_of lists (span_at rows c.args.row)) = omega (arith, has_space lists rows c.args.row there some, ap (λ (r : Row). r.len) is) in
    let lists_are : c.set.new.self.lists ≡ with_number lists row.span.number row.len c.args.value = ap (λ (v : Lists). v.lists) c.set.ensures in
    let next : Row = record { span = row.span; len = row.len + 1 } in
    ap (λ ls. map (seen front ls) (set rows c.args.row next)) lists_are
    ∙ put_rows lists rows c.args.row c.args.value row next c.self.invariant there is refl space
    ∙ ap (λ (t : Table). with_list t.rows c.args.row (list_of t.rows c.args.row ++ c.args.value ∷ [])) c.self.view_is

pub returns-clause-room : goal.returns-clause-room
returns-clause-room c =
    let lists = c.self.inside.numbers.lists in
    let rows = c.self.inside.rows.items in
    let held = ap (λ (t : Table). length t.rows) c.self.view_is in
    let there : c.args.row < length rows = omega (arith, held, c.requires.there, many_seen front lists rows) in
    let row = c.index.result.now in
    let is : row ≡ row_at rows c.args.row = row_is rows c.args.row row there c.index.ensures in
    let lists_are : c.set.new.self.lists ≡ with_number lists row.span.number row.len c.args.value = ap (λ (v : Lists). v.lists) c.set.ensures in
    let next : Row = record { span = row.span; len = row.len + 1 } in
    let put = put_room lists rows c.args.row c.args.value row next c.self.invariant there is refl in
    let was = ap (λ (t : Table). room_of t c.args.row) c.self.view_is in
    let now = ap (λ ls. get_or (map (seen room ls) (set rows c.args.row next)) c.args.row 0) lists_are in
    omega (arith, put, was, now)
