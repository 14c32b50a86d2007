-- Least multiples, and things that stand in order.
use Rattle.std.proofs.Common.{◌≡◌, ℕ, suc, ◌+◌, ◌-◌, ◌*◌, ◌/◌, ◌<◌, ◌≤◌, max, List, [], ◌∷◌, length, drop, get_or, zero, inl, inr, ap, arith}
use Rattle.std.proofs.Math.Seq.{drop-cons}
use Rattle.std.specs.List.{AllByRecursion}
use Rattle.std.proofs.Math.Nat.{mod-lt, mod-add-div', mul-le-mul_right, mul-mod_left}
use Rattle.std.proofs.lemmas.Bool.{cases_lt}
use Rattle.std.proofs.lemmas.Nat.{div-add-mod'}
use Rattle.c_types.specs.declared.kind.Measure.{Measure}
use Rattle.c_types.specs.declared.tree.Object.{Object}
use Rattle.c_types.specs.InOrder.{AreAligned, IsLeastMultiple, StandFrom, end_from, end_of, greatest_align, least_multiple, offsets_from}
use Rattle.c_types.specs.Placing.{measures_of}
use Rattle.c_types.specs.WellMade.{IsAlignment}

-- ---- least multiples

pub least_multiple_behind : (align from : ℕ) → 0 < align → from ≤ least_multiple align from
least_multiple_behind align from some = omega (arith, div-add-mod' (from + (align - 1)) align, mod-lt (from + (align - 1)) some)

pub least_multiple_near : (align from : ℕ) → 0 < align → least_multiple align from < from + align
least_multiple_near align from some = omega (arith, div-add-mod' (from + (align - 1)) align)

no_multiple_between : (align from q k : ℕ) → 0 < align → q * align < from + align → from ≤ k * align → q * align ≤ k * align
no_multiple_between align from q k some near behind = elim (cases_lt k q) [
  | inl more ↦ let h = mul-le-mul_right {m = suc k} {n = q} align more in grind (arith, h)
  | inr less ↦ mul-le-mul_right align less
]

pub least_multiple_is : (align from : ℕ) → 0 < align → IsLeastMultiple align from (least_multiple align from)
least_multiple_is align from some = record {
  multiple = mul-mod_left _ align;
  behind = least_multiple_behind align from some;
  least = λ other multiple past.
      let is : other / align * align ≡ other = let m = mod-add-div' other align in omega (arith, m, multiple) in
      let low : from ≤ other / align * align = omega (arith, is, past) in
      let h = no_multiple_between align from ((from + (align - 1)) / align) (other / align) some (least_multiple_near align from some) low in
      omega (arith, h, is);
}

pub some_alignment : (align : ℕ) → IsAlignment align → 0 < align
some_alignment align is = grind (arith, is)

-- ---- one more of them

pub aligned_behind : (ms : List Measure) (i : ℕ) → AreAligned ms → AreAligned (drop i ms)
aligned_behind ms zero aligned = aligned
aligned_behind [] (suc i) aligned = tt
aligned_behind (m ∷ ms) (suc i) aligned = aligned_behind ms i aligned.1

end_goes_on : (ms : List Measure) (i end : ℕ) (d : Measure) → i < length ms
    → end_from end (drop i ms) ≡ end_from (least_multiple (get_or ms i d).align end + (get_or ms i d).size) (drop (suc i) ms)
end_goes_on ms i end d within = ap (end_from end) (drop-cons ms i d within)

pub end_from_behind : (end : ℕ) (ms : List Measure) → AreAligned ms → end ≤ end_from end ms
end_from_behind end [] aligned = omega arith
end_from_behind end (m ∷ ms) aligned =
    let here = least_multiple_behind m.align end aligned.0 in
    let rest = end_from_behind (least_multiple m.align end + m.size) ms aligned.1 in
    omega (arith, here, rest)

pub greatest_align_some : (ms : List Measure) → 1 ≤ greatest_align ms
greatest_align_some [] = omega arith
greatest_align_some (m ∷ ms) = omega (arith, greatest_align_some ms)

-- what ends within a limit is within it all the way
pub within_limit : (ms : List Measure) (i end limit : ℕ) (d : Measure) → i < length ms → AreAligned ms
    → end_from end (drop i ms) ≡ end_of ms → end_of ms ≤ limit → (end ≤ limit) × (least_multiple (get_or ms i d).align end + (get_or ms i d).size ≤ limit)
within_limit ms i end limit d within aligned ends low =
    let here = end_from_behind end (drop i ms) (aligned_behind ms i aligned) in
    let next = end_from_behind (least_multiple (get_or ms i d).align end + (get_or ms i d).size) (drop (suc i) ms) (aligned_behind ms (suc i) aligned) in
    let on = end_goes_on ms i end d within in
    (omega (arith, here, ends, low), omega (arith, next, on, ends, low))

pub max_one : (n : ℕ) → 1 ≤ n → max 1 n ≡ n
max_one n some = omega (arith, some)

-- objects have alignments
pub objects_aligned : (objects : List Object) → AllByRecursion (λ o. IsAlignment o.align) objects → AreAligned (measures_of objects)
objects_aligned [] all = tt
objects_aligned (o ∷ os) all = (some_alignment o.align all.0, objects_aligned os all.1)

-- the offsets are least multiples
pub offsets_stand : (end : ℕ) (ms : List Measure) → AreAligned ms → StandFrom end ms (offsets_from end ms)
offsets_stand end [] aligned = tt
offsets_stand end (m ∷ ms) aligned = (least_multiple_is m.align end aligned.0, offsets_stand (least_multiple m.align end + m.size) ms aligned.1)
