use Rattle.std.proofs.Common.{◌≡◌, ◌<◌, ◌≤◌, ◌-◌, ◌∙◌, ℕ, List, ap, arith, drop, get_or, length, subst, sym}
use Rattle.std.specs.List.{AllByRecursion}
use Rattle.c_names.specs.declared.chain.Entry.{Entry}
use Rattle.c_names.specs.Chains.{end_in, IsPut, later}
use Rattle.c_names.proofs.PutLaws.{nothing, put_new, put_again, get_or_any}
use Rattle.c_names.proofs.chain.put.Goals as goal

-- where the names of these scopes end before
record Placed (xs : List Entry) (e : Entry) (p : ℕ) : Type 0 where
  low : p ≤ length xs
  inner : AllByRecursion (λ x. end_in x < end_in e) (drop p xs)
  outer : 0 < p → end_in e ≤ end_in (get_or xs (p - 1) nothing)

placed : (xs ds : List Entry) (end p : ℕ) (e : Entry) → ds ≡ xs → end ≡ end_in e → p ≤ length ds → AllByRecursion (λ x. end_in x < end) (drop p ds)
    → ((d : Entry) → 0 < p → end ≤ end_in (get_or ds (p - 1) d)) → Placed xs e p
placed xs ds end p e value same low inner outer =
    subst (λ ys. Placed ys e p) value
    (record {
      low = low;
      inner = subst (λ n. AllByRecursion (λ x. end_in x < n) (drop p ds)) same inner;
      outer = λ some. subst (λ n. n ≤ end_in (get_or ds (p - 1) nothing)) same (outer nothing some);
    })

last : (c : goal.Then-is_again) → (0 < c.place_of-place.result) × (end_in (get_or c.args.chain.now.items (c.place_of-place.result - 1) nothing) ≡ end_in c.args.entry)
last c =
    let yes = c.is_again.ensures.yes nothing c.if-is_again.true in
    (yes.0, ap (λ xs. end_in (get_or xs (c.place_of-place.result - 1) nothing)) (sym c.deref-2.ensures.value) ∙ (yes.1 ∙ c.end_of-2.ensures))

pub overflow_sub-place : goal.overflow_sub-place
overflow_sub-place c = let some = (last c).0 in omega (arith, some)

pub index-requires : goal.index-requires
index-requires c =
    let some = (last c).0 in
    let low = c.place_of-place.ensures.low in
    let long = c.deref.ensures.len in
    omega (arith, some, low, long)

pub returns-then-is_again : goal.returns-then-is_again
returns-then-is_again c =
    let xs = c.args.chain.now.items in
    let p = c.place_of-place.result in
    let q = placed xs c.deref.result.now c.end_of.result p c.args.entry c.deref.ensures.value c.end_of.ensures c.place_of-place.ensures.low c.place_of-place.ensures.inner c.place_of-place.ensures.outer in
    let yes = c.is_again.ensures.yes nothing c.if-is_again.true in
    let some = yes.0 in
    let low = q.low in
    let within : p - 1 < length xs = omega (arith, some, low) in
    let same = ap (λ ys. end_in (get_or ys (p - 1) nothing)) (sym c.deref-2.ensures.value) ∙ (yes.1 ∙ c.end_of-2.ensures) in
    put_again xs p c.args.entry nothing c.later.result q.low q.inner yes.0 same
    (c.later.ensures ∙ ap (λ o. later o c.args.entry) (c.index.ensures ∙ get_or_any xs (p - 1) c.index.result.now nothing within))

pub returns : goal.returns
returns c =
    let xs = c.args.chain.now.items in
    let p = c.place_of-place.result in
    let q = placed xs c.deref.result.now c.end_of.result p c.args.entry c.deref.ensures.value c.end_of.ensures c.place_of-place.ensures.low c.place_of-place.ensures.inner c.place_of-place.ensures.outer in
    subst (IsPut c.args.entry xs) (sym c.in_ok-insert.ensures.items)
    (put_new xs p c.args.entry nothing q.low q.inner q.outer
    (λ some same. c.is_again.ensures.no nothing c.if-is_again.false some (ap (λ ys. end_in (get_or ys (p - 1) nothing)) c.deref-2.ensures.value ∙ (same ∙ sym c.end_of-2.ensures))))
