use Rattle.std.proofs.Common.{◌-◌, ◌<◌, ◌∙◌, sym, ap, subst, length, arith, ℕ, min}
use Rattle.cp_obstack.specs.Lists.{Lists, list_of, with_number}
use Rattle.cp_obstack.specs.Cuts.{cut}
use Rattle.cp_obstack.proofs.CutLaws.{many, start_at, within_all, changed_numbers, kept_starts, cut_is, is_cut}
use Rattle.cp_obstack.proofs.obstack.Obstack.set.Goals as goal

pub index-start-requires : goal.index-start-requires
index-start-requires c =
    let held = ap (λ (v : Lists). length v.lists) c.self.view_is in
    omega (arith, held, c.requires.there, many c.self.inside.starts.items c.self.inside.numbers.items c.self.invariant, c.self.inside.starts.ok.0)

pub overflow_add-start : goal.overflow_add-start
overflow_add-start c =
    let starts = c.self.inside.starts.items in
    let numbers = c.self.inside.numbers.items in
    let there : c.args.span.number < length (cut starts numbers) = subst (λ (v : Lists). c.args.span.number < length v.lists) (sym c.self.view_is) c.requires.there in
    let within : c.args.index < length (list_of (cut starts numbers) c.args.span.number) = subst (λ (v : Lists). c.args.index < length (list_of v.lists c.args.span.number)) (sym c.self.view_is) c.requires.within in
    let start = start_at starts numbers c.args.span.number c.index-start.result.now c.self.invariant (omega (arith, there, many starts numbers c.self.invariant)) c.index-start.ensures in
    let small = c.self.inside.numbers.small in
    let room = c.self.inside.numbers.ok in
    omega (arith, within_all starts numbers c.args.span.number c.args.index c.index-start.result.now c.self.invariant there within start, c.self.inside.numbers.ok.0, small, room)

pub index_mut-requires : goal.index_mut-requires
index_mut-requires c =
    let starts = c.self.inside.starts.items in
    let numbers = c.self.inside.numbers.items in
    let there : c.args.span.number < length (cut starts numbers) = subst (λ (v : Lists). c.args.span.number < length v.lists) (sym c.self.view_is) c.requires.there in
    let within : c.args.index < length (list_of (cut starts numbers) c.args.span.number) = subst (λ (v : Lists). c.args.index < length (list_of v.lists c.args.span.number)) (sym c.self.view_is) c.requires.within in
    let start = start_at starts numbers c.args.span.number c.index-start.result.now c.self.invariant (omega (arith, there, many starts numbers c.self.invariant)) c.index-start.ensures in
    omega (arith, within_all starts numbers c.args.span.number c.args.index c.index-start.result.now c.self.invariant there within start, c.self.inside.numbers.ok.0)

pub invariant_of-self : goal.invariant_of-self
invariant_of-self c =
    let starts = c.self.inside.starts.items in
    let numbers = c.self.inside.numbers.items in
    let there : c.args.span.number < length (cut starts numbers) = subst (λ (v : Lists). c.args.span.number < length v.lists) (sym c.self.view_is) c.requires.there in
    let within : c.args.index < length (list_of (cut starts numbers) c.args.span.number) = subst (λ (v : Lists). c.args.index < length (list_of v.lists c.args.span.number)) (sym c.self.view_is) c.requires.within in
    let start = start_at starts numbers c.args.span.number c.index-start.result.now c.self.invariant (omega (arith, there, many starts numbers c.self.invariant)) c.index-start.ensures in
    is_cut (with_number (cut starts numbers) c.args.span.number c.args.index c.args.value) _ _ (kept_starts starts numbers c.args.span.number c.args.index c.args.value c.self.invariant)
    (changed_numbers starts numbers c.args.span.number c.args.index c.args.value c.index-start.result.now c.self.invariant there within start)

pub returns : goal.returns
returns c =
    let starts = c.self.inside.starts.items in
    let numbers = c.self.inside.numbers.items in
    let there : c.args.span.number < length (cut starts numbers) = subst (λ (v : Lists). c.args.span.number < length v.lists) (sym c.self.view_is) c.requires.there in
    let within : c.args.index < length (list_of (cut starts numbers) c.args.span.number) = subst (λ (v : Lists). c.args.index < length (list_of v.lists c.args.span.number)) (sym c.self.view_is) c.requires.within in
    let start = start_at starts numbers c.args.span.number c.index-start.result.now c.self.invariant (omega (arith, there, many starts numbers c.self.invariant)) c.index-start.ensures in
    let spare : ℕ = min (c.self.inside.numbers.cap - c.self.inside.numbers.len) (c.self.inside.starts.cap - c.self.inside.starts.len) in
    let changed = cut_is (with_number (cut starts numbers) c.args.span.number c.args.index c.args.value) _ _ (kept_starts starts numbers c.args.span.number c.args.index c.args.value c.self.invariant)
    (changed_numbers starts numbers c.args.span.number c.args.index c.args.value c.index-start.result.now c.self.invariant there within start) in
    ap (λ ls. let v : Lists = record { lists = ls; spare = spare } in v) changed
    ∙ ap (λ (v : Lists). let w : Lists = record { lists = with_number v.lists c.args.span.number c.args.index c.args.value; spare = v.spare } in w) c.self.view_is
