use Rattle.std.proofs.Common.{◌≡◌, ◌∷◌, [], ◌++◌, ◌<◌, ◌∙◌, ◌≤◌, sym, subst, ap, map, length, refl, arith, set, get_or}
use Rattle.firm_uses.specs.Tables.{Table, room_of}
use Rattle.firm_uses.specs.declared.rows.Row.{Row}
use Rattle.firm_uses.specs.Held.{seen, front, room, row_at, AreApart}
use Rattle.firm_uses.proofs.HeldLaws.{row_is, many_seen, moved_rows, moved_room, moved_apart, room_read, within_row, within_read}
use Rattle.firm_uses.proofs.rows.Rows.grow.Goals as goal

pub returns-clause-room : goal.returns-clause-room
returns-clause-room c =
    let lists = c.self.inside.numbers.lists in
    let rows = c.self.inside.rows.items in
    let held = ap (λ (t : Table). length t.rows) c.self.view_is in
    let there : c.args.row < length rows = omega (arith, held, c.requires, many_seen front lists rows) in
    let row = c.index.result.now in
    let next : Row = record { span = c.in_ok-span.span; len = row.len } in
    let lists_are : c.moved.new.numbers.lists ≡ lists ++ c.moved.new.copied.items ∷ [] = c.in_ok-span.ensures.ok in
    let gained = moved_room lists rows c.args.row c.args.more c.in-Some.size c.moved.new.copied.items next there c.in_ok-span.ensures.span c.in-Some.ensures.1 c.in_ok-span.ensures.size in
    omega (arith, gained, ap (λ ls. get_or (map (seen room ls) (set rows c.args.row next)) c.args.row 0) lists_are)

pub returns-clause-rows : goal.returns-clause-rows
returns-clause-rows c =
    let lists = c.self.inside.numbers.lists in
    let rows = c.self.inside.rows.items in
    let held = ap (λ (t : Table). length t.rows) c.self.view_is in
    let there : c.args.row < length rows = omega (arith, held, c.requires, many_seen front lists rows) in
    let row = c.index.result.now in
    let is : row ≡ row_at rows c.args.row = row_is rows c.args.row row there c.index.ensures in
    let next : Row = record { span = c.in_ok-span.span; len = row.len } in
    let lists_are : c.moved.new.numbers.lists ≡ lists ++ c.moved.new.copied.items ∷ [] = c.in_ok-span.ensures.ok in
    ap (λ ls. map (seen front ls) (set rows c.args.row next)) lists_are
    ∙ moved_rows lists rows c.args.row c.moved.new.copied.items row next c.self.invariant there is c.in_ok-span.ensures.span refl c.in_ok-span.ensures.front
    ∙ ap (λ (t : Table). t.rows) c.self.view_is

pub overflow_sub-list : goal.overflow_sub-list
overflow_sub-list c =
    let lists = c.self.inside.numbers.lists in
    let rows = c.self.inside.rows.items in
    let held = ap (λ (t : Table). length t.rows) c.self.view_is in
    let there : c.args.row < length rows = omega (arith, held, c.requires, many_seen front lists rows) in
    let row = c.index.result.now in
    let is : row ≡ row_at rows c.args.row = row_is rows c.args.row row there c.index.ensures in
    within_read lists rows c.args.row row c.list.result.now c.self.invariant there is c.list.ensures

pub returns-then-more-list-clause-room : goal.returns-then-more-list-clause-room
returns-then-more-list-clause-room c =
    let lists = c.self.inside.numbers.lists in
    let rows = c.self.inside.rows.items in
    let held = ap (λ (t : Table). length t.rows) c.self.view_is in
    let there : c.args.row < length rows = omega (arith, held, c.requires, many_seen front lists rows) in
    let row = c.index.result.now in
    let is : row ≡ row_at rows c.args.row = row_is rows c.args.row row there c.index.ensures in
    let room_is = sym (ap (λ (t : Table). room_of t c.args.row) c.self.view_is) ∙ room_read lists rows c.args.row row c.list.result.now there is c.list.ensures in
    omega (arith, room_is, c.if-more-list.true)

pub returns-in_default-clause-within : goal.returns-in_default-clause-within
returns-in_default-clause-within c =
    let lists = c.self.inside.numbers.lists in
    let rows = c.self.inside.rows.items in
    let held = ap (λ (t : Table). length t.rows) c.self.view_is in
    let there : c.args.row < length rows = omega (arith, held, c.requires, many_seen front lists rows) in
    let row = c.index.result.now in
    let is : row ≡ row_at rows c.args.row = row_is rows c.args.row row there c.index.ensures in
    let room_is = sym (ap (λ (t : Table). room_of t c.args.row) c.self.view_is) ∙ room_read lists rows c.args.row row c.list.result.now there is c.list.ensures in
    λ (fits : c.args.more ≤ room_of c.args.self.now c.args.row). absurd (omega (arith, room_is, c.if-more-list.false, fits))

pub returns-in_err-span-clause-within : goal.returns-in_err-span-clause-within
returns-in_err-span-clause-within c =
    let lists = c.self.inside.numbers.lists in
    let rows = c.self.inside.rows.items in
    let held = ap (λ (t : Table). length t.rows) c.self.view_is in
    let there : c.args.row < length rows = omega (arith, held, c.requires, many_seen front lists rows) in
    let row = c.index.result.now in
    let is : row ≡ row_at rows c.args.row = row_is rows c.args.row row there c.index.ensures in
    let room_is = sym (ap (λ (t : Table). room_of t c.args.row) c.self.view_is) ∙ room_read lists rows c.args.row row c.list.result.now there is c.list.ensures in
    λ (fits : c.args.more ≤ room_of c.args.self.now c.args.row). absurd (omega (arith, room_is, c.if-more-list.false, fits))

pub moved-requires-clause-within : goal.moved-requires-clause-within
moved-requires-clause-within c =
    let lists = c.self.inside.numbers.lists in
    let rows = c.self.inside.rows.items in
    let held = ap (λ (t : Table). length t.rows) c.self.view_is in
    let there : c.args.row < length rows = omega (arith, held, c.requires, many_seen front lists rows) in
    let row = c.index.result.now in
    let is : row ≡ row_at rows c.args.row = row_is rows c.args.row row there c.index.ensures in
    within_row lists rows c.args.row row c.self.invariant there is

pub invariant_of-self-2 : goal.invariant_of-self-2
invariant_of-self-2 c =
    let lists = c.self.inside.numbers.lists in
    let rows = c.self.inside.rows.items in
    let held = ap (λ (t : Table). length t.rows) c.self.view_is in
    let there : c.args.row < length rows = omega (arith, held, c.requires, many_seen front lists rows) in
    let row = c.index.result.now in
    let is : row ≡ row_at rows c.args.row = row_is rows c.args.row row there c.index.ensures in
    let next : Row = record { span = c.in_ok-span.span; len = row.len } in
    let size = c.in-Some.ensures.1 in
    subst (λ ls. AreApart ls (set rows c.args.row next)) (sym c.in_ok-span.ensures.ok)
    (moved_apart lists rows c.args.row c.moved.new.copied.items next c.self.invariant there c.in_ok-span.ensures.span (omega (arith, c.in_ok-span.ensures.size, size)))
