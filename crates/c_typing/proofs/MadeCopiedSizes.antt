-- A type with a size has one above 0, where no array of it is empty and no struct is.
use Rattle.std.proofs.Common.{◌≡◌, ℕ, zero, suc, ◌+◌, ◌<◌, max, Bool, true, false, ◌||◌, cond, List, [], ◌∷◌, Option, Some, None, refl, sym, ap, ◌∙◌, arith, true≢false, inl, inr, unwrap_or}
use Rattle.std.proofs.Math.Nat.{mul-pos}
use Rattle.std.specs.Prelude.{option_map, ◌==◌}
use Rattle.std.specs.Option.{is_some}
use Rattle.std.specs.List.{AllByRecursion}
use Rattle.c_types.specs.declared.kind.Measure.{Measure}
use Rattle.c_types.specs.InOrder.{AreAligned, least_multiple, greatest_align, end_of}
use Rattle.c_types.specs.Sizes.{struct_measure, array_measure}
use Rattle.c_types.specs.WellMade.{IsAlignment}
use Rattle.c_types.proofs.OrderLaws.{least_multiple_behind, end_from_behind}
use Rattle.c_typing.specs.Types as type
use Rattle.c_typing.specs.Types.{CType, void, integer, pointer, array, unsized, struct, function, is_struct, Layout, layout_of, measure, has_size, size_of, traits_of, no_measure, IntegerType}
use Rattle.c_typing.specs.Judgements.{Step, to_pointer, of_array, of_unsized, of_function, PlacedStep, Fault}
use Rattle.c_typing.specs.Rules.{bad_result, broken_if}
use Rattle.c_typing.specs.Declarators.{built, build, stepped_from}
use Rattle.c_typing.proofs.MadeDeclarators.{HasElements}
use Rattle.c_typing.proofs.MadeSizes.{IsAligned}

-- an array without elements, or of such arrays; a function that gives a struct
abbrev pub is_hollow : CType → Bool
is_hollow (array t n) = n == 0 || is_hollow t
is_hollow (function r ps) = is_struct r
is_hollow t = false

abbrev pub AllSolid : List Layout → Type 0
AllSolid ls = AllByRecursion (λ (l : Layout). 0 < l.measure.size) ls

abbrev Solid : Option Measure → Type 0
Solid None = Unit {0}
Solid (Some m) = 0 < m.size

integer_solid : (k : IntegerType) → 0 < (traits_of k).size
integer_solid type.bool = omega arith
integer_solid type.char = omega arith
integer_solid type.schar = omega arith
integer_solid type.uchar = omega arith
integer_solid type.short = omega arith
integer_solid type.ushort = omega arith
integer_solid type.int = omega arith
integer_solid type.uint = omega arith
integer_solid type.long = omega arith
integer_solid type.ulong = omega arith

-- both are false
neither : (a b : Bool) → a || b ≡ false → (a ≡ false) × (b ≡ false)
neither false b e = (refl, e)
neither true b e = absurd (true≢false e)

above : (n : ℕ) → (n == 0) ≡ false → 0 < n
above zero e = absurd (true≢false e)
above (suc n) e = omega arith

no_zero : (n : ℕ) → 0 < n → (n == 0) ≡ false
no_zero zero lt = absurd (omega (arith, lt))
no_zero (suc n) lt = grind arith

array_solid : (n : ℕ) (o : Option Measure) → 0 < n → Solid o → Solid (option_map (array_measure n) o)
array_solid n None lt h = tt
array_solid n (Some m) lt h = mul-pos lt h

layout_solid : (ls : List Layout) (k : ℕ) → AllSolid ls → Solid (option_map (λ (l : Layout). l.measure) (layout_of ls k))
layout_solid [] k h = tt
layout_solid (l ∷ ls) k h = by (l.number == k) (layout_solid ls k h.1)
  where
    by : (b : Bool) → Solid (option_map (λ (x : Layout). x.measure) (layout_of ls k)) → Solid (option_map (λ (x : Layout). x.measure) (cond b (Some l) (layout_of ls k)))
    by true g = h.0
    by false g = g

measure_solid : (ls : List Layout) (t : CType) → AllSolid ls → is_hollow t ≡ false → Solid (measure ls t)
measure_solid ls void h e = tt
measure_solid ls (integer k) h e = integer_solid k
measure_solid ls (pointer t) h e = omega arith
measure_solid ls (array t n) h e = let s = neither (n == 0) (is_hollow t) e in array_solid n (measure ls t) (above n s.0) (measure_solid ls t h s.1)
measure_solid ls (unsized t) h e = tt
measure_solid ls (struct k) h e = layout_solid ls k h
measure_solid ls (function r ps) h e = tt

pub size_above : (ls : List Layout) (t : CType) → AllSolid ls → is_hollow t ≡ false → has_size ls t ≡ true → 0 < size_of ls t
size_above ls t h e g = by (measure ls t) (measure_solid ls t h e) g
  where
    by : (o : Option Measure) → Solid o → is_some o ≡ true → 0 < (unwrap_or o no_measure).size
    by None s g = absurd (true≢false (sym g))
    by (Some m) s g = s

-- ---- structs

align_above : (a : ℕ) → IsAlignment a → 0 < a
align_above a (inl e) = omega (arith, e)
align_above a (inr (inl e)) = omega (arith, e)
align_above a (inr (inr e)) = omega (arith, e)

aligns_above : (ms : List Measure) → AllByRecursion IsAligned ms → AreAligned ms
aligns_above [] h = tt
aligns_above (m ∷ ms) h = (align_above m.align (h.0).align, aligns_above ms h.1)

greatest_above : (ms : List Measure) → AreAligned ms → 0 < greatest_align ms
greatest_above [] h = omega arith
greatest_above (m ∷ ms) h = let own = h.0 in greater m.align (greatest_align ms) own
  where
    greater : (a b : ℕ) → 0 < a → 0 < max a b
    greater a b lt = grind (arith, lt)

pub struct_solid : (m : Measure) (ms : List Measure) → 0 < m.size → AllByRecursion IsAligned (m ∷ ms) → 0 < (struct_measure (m ∷ ms)).size
struct_solid m ms lt h =
    let a = aligns_above (m ∷ ms) h in
    let behind = end_from_behind (least_multiple m.align 0 + m.size) ms a.1 in
    let rounded = least_multiple_behind (greatest_align (m ∷ ms)) (end_of (m ∷ ms)) (greatest_above (m ∷ ms) a) in
    omega (arith, lt, behind, rounded)

-- ---- what declarators build

pub has_or : (b : Bool) (n : ℕ) → broken_if b 5 n ≡ [] → b ≡ false
has_or false n e = refl
has_or true n e = absurd (cc e)

no_struct : (r : CType) (n : ℕ) → bad_result r n ≡ [] → is_struct r ≡ false
no_struct (struct k) n e = absurd (cc e)
no_struct void n e = refl
no_struct (integer k) n e = refl
no_struct (pointer t) n e = refl
no_struct (array t k) n e = refl
no_struct (unsized t) n e = refl
no_struct (function r ps) n e = refl

abbrev pub AllWithElements : List PlacedStep → Type 0
AllWithElements ss = AllByRecursion (λ (s : PlacedStep). HasElements s.step) ss

stepped_full : (ls : List Layout) (s : Step) (n : ℕ) (u : CType) (fs : List Fault) → HasElements s → (fs ≡ [] → is_hollow u ≡ false) → (stepped_from ls (record { node = n; step = s }) (built u fs)).faults ≡ []
    → is_hollow (stepped_from ls (record { node = n; step = s }) (built u fs)).type ≡ false
stepped_full ls s n u (f ∷ fs) e h clean = absurd (cc clean)
stepped_full ls to_pointer n u [] e h clean = refl
stepped_full ls (of_array k) n u [] e h clean = ap (λ b. b || is_hollow u) (no_zero k e) ∙ h refl
stepped_full ls of_unsized n u [] e h clean = refl
stepped_full ls Step.of_parameter n u [] e h clean = refl
stepped_full ls (of_function ps) n u [] e h clean = no_struct u n clean

pub build_full : (ls : List Layout) (base : CType) (ss : List PlacedStep) → is_hollow base ≡ false → AllWithElements ss → (build ls base ss).faults ≡ [] → is_hollow (build ls base ss).type ≡ false
build_full ls base [] h e clean = h
build_full ls base (s ∷ ss) h e clean = let b = build ls base ss in stepped_full ls s.step s.node b.type b.faults e.0 (λ none. build_full ls base ss h e.1 none) clean
