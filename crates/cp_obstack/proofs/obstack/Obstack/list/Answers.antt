use Rattle.std.proofs.Common.{◌≡◌, ◌+◌, ◌-◌, ◌<◌, ◌∙◌, sym, ap, length, arith, take, drop, Some}
use Rattle.std.proofs.Math.Numerals.{suc-eq-add-one}
use Rattle.std.specs.List.{slice_get}
use Rattle.cp_obstack.specs.Lists.{Lists}
use Rattle.cp_obstack.specs.Cuts.{cut}
use Rattle.cp_obstack.proofs.CutLaws.{many, before, before_more, before_all, length_numbers, start_at, start_by, list_is}
use Rattle.cp_obstack.proofs.obstack.Obstack.list.Goals as goal

pub index-start-requires : goal.index-start-requires
index-start-requires c =
    let held = ap (λ (v : Lists). length v.lists) c.self.view_is in
    omega (arith, held, c.requires, many c.self.inside.starts.items c.self.inside.numbers.items c.self.invariant, c.self.inside.starts.ok.0)

pub overflow_add-span : goal.overflow_add-span
overflow_add-span c =
    let held = ap (λ (v : Lists). length v.lists) c.self.view_is in
    omega (arith, held, c.requires, many c.self.inside.starts.items c.self.inside.numbers.items c.self.invariant, ap length c.deref.ensures.value, c.deref.type_inv.0)

pub part_of-requires : goal.part_of-requires
part_of-requires c =
    let starts = c.self.inside.starts.items in
    let numbers = c.self.inside.numbers.items in
    let held = ap (λ (v : Lists). length v.lists) c.self.view_is in
    let there : c.args.span.number < length (cut starts numbers) = omega (arith, held, c.requires) in
    let start = start_at starts numbers c.args.span.number c.index-start.result.now c.self.invariant (omega (arith, there, many starts numbers c.self.invariant)) c.index-start.ensures in
    let all : c.len.result ≡ length numbers = c.len.ensures ∙ c.self.inside.numbers.ok.0 in
    let end = start_by starts numbers (c.args.span.number + 1) c.start_of-end.result c.len.result c.deref.result.now c.self.invariant c.deref.ensures.value all c.start_of-end.ensures in
    let next = before_more c.args.span.number (cut starts numbers) there in
    let next_is = ap (λ n. before n (cut starts numbers)) (suc-eq-add-one c.args.span.number) in
    let within = before_all (c.args.span.number + 1) (cut starts numbers) in
    record {
      ordered = omega (arith, start, end, next, next_is);
      within = omega (arith, end, within, ap length c.deref-2.ensures.value, length_numbers starts numbers c.self.invariant);
    }

pub returns : goal.returns
returns c =
    let starts = c.self.inside.starts.items in
    let numbers = c.self.inside.numbers.items in
    let held = ap (λ (v : Lists). length v.lists) c.self.view_is in
    let there : c.args.span.number < length (cut starts numbers) = omega (arith, held, c.requires) in
    let start = start_at starts numbers c.args.span.number c.index-start.result.now c.self.invariant (omega (arith, there, many starts numbers c.self.invariant)) c.index-start.ensures in
    let all : c.len.result ≡ length numbers = c.len.ensures ∙ c.self.inside.numbers.ok.0 in
    let end = start_by starts numbers (c.args.span.number + 1) c.start_of-end.result c.len.result c.deref.result.now c.self.invariant c.deref.ensures.value all c.start_of-end.ensures in
    let next_is = ap (λ n. before n (cut starts numbers)) (suc-eq-add-one c.args.span.number) in
    ap (λ (v : Lists). slice_get v.lists c.args.span.number) (sym c.self.view_is)
    ∙ list_is starts numbers c.args.span.number c.index-start.result.now c.start_of-end.result c.self.invariant there start (end ∙ sym next_is)
    ∙ ap (λ l. Some l) (ap (λ l. take (c.start_of-end.result - c.index-start.result.now) (drop c.index-start.result.now l)) (sym c.deref-2.ensures.value) ∙ sym c.part_of.ensures)
