-- Parts of types: they have sizes, and stand in order within the whole.
use Rattle.std.proofs.Common.{◌≡◌, ◌⊎◌, inl, inr, ℕ, zero, suc, ◌+◌, ◌*◌, ◌≤◌, Bool, true, false, List, [], ◌∷◌, Option, Some, None, refl, sym, ap, ◌∙◌, subst, arith, true≢false, unwrap_or}
use Rattle.std.specs.Prelude.{if◌then◌else◌, nat_lt, slice_get, option_map, option_and_then}
use Rattle.std.specs.Option.{is_some}
use Rattle.c_types.specs.declared.kind.Measure.{Measure}
use Rattle.c_types.specs.Sizes.{array_measure}
use Rattle.c_typing.specs.Types.{CType, void, integer, pointer, array, unsized, struct, function, Field, Layout, layout_of, measure, no_measure, has_size, size_of, is_unsized, element_of}
use Rattle.c_typing.specs.Initializers.{part_type}

no : {A : Type 0} → false ≡ true → A
no e = absurd (true≢false (sym e))

-- members have sizes, and stand one behind the other, from a place on and within a size
abbrev pub FieldsStand : List Layout → ℕ → List Field → ℕ → Type 0
FieldsStand ls from [] size = from ≤ size
FieldsStand ls from (f ∷ fs) size = (from ≤ f.offset) × (has_size ls f.type ≡ true) × FieldsStand ls (f.offset + size_of ls f.type) fs size

-- so do those of all structs
abbrev pub AllLaid : List Layout → Type 0
AllLaid ls = (k : ℕ) (l : Layout) → layout_of ls k ≡ Some l → FieldsStand ls 0 l.fields l.measure.size

-- an object of this type may have an initializer: it has a size, or is to get one
abbrev pub MayHold : List Layout → CType → Type 0
MayHold ls t = (has_size ls t ≡ true) ⊎ ((is_unsized t ≡ true) × (has_size ls (element_of t) ≡ true))

-- where the member of this index begins; behind the last one, the size
abbrev pub start : List Field → ℕ → ℕ → ℕ
start [] i size = size
start (f ∷ fs) zero size = f.offset
start (f ∷ fs) (suc i) size = start fs i size

pub start_below : (ls : List Layout) (from : ℕ) (fs : List Field) (size i : ℕ) → FieldsStand ls from fs size → (from ≤ start fs i size) × (start fs i size ≤ size)
start_below ls from [] size i h = (h, omega arith)
start_below ls from (f ∷ fs) size zero h =
    let low = h.0 in
    let rest = start_below ls (f.offset + size_of ls f.type) fs size zero h.2 in
    let a = rest.0 in let b = rest.1 in
    (low, omega (arith, a, b))
start_below ls from (f ∷ fs) size (suc i) h =
    let low = h.0 in
    let rest = start_below ls (f.offset + size_of ls f.type) fs size i h.2 in
    let a = rest.0 in
    (omega (arith, low, a), rest.1)

pub record FieldStands (ls : List Layout) (fs : List Field) (size i : ℕ) (f : Field) : Type 0 where
  pub sized : has_size ls f.type ≡ true
  pub begins : f.offset ≡ start fs i size
  pub ends : f.offset + size_of ls f.type ≤ start fs (suc i) size

pub field_stands : (ls : List Layout) (from : ℕ) (fs : List Field) (size i : ℕ) (f : Field) → FieldsStand ls from fs size → slice_get fs i ≡ Some f → FieldStands ls fs size i f
field_stands ls from [] size i f h e = absurd (cc e)
field_stands ls from (g ∷ fs) size zero f h e =
    let same : g ≡ f = cc e in
    subst (λ x. FieldStands ls (g ∷ fs) size zero x) same
    (record { sized = h.1; begins = refl; ends = (start_below ls (g.offset + size_of ls g.type) fs size zero h.2).0 })
field_stands ls from (g ∷ fs) size (suc i) f h e =
    let r = field_stands ls (g.offset + size_of ls g.type) fs size i f h.2 e in
    record { sized = r.sized; begins = r.begins; ends = r.ends }

pub none_start : (fs : List Field) (size i : ℕ) → slice_get fs i ≡ None → (start fs i size ≡ size) × (start fs (suc i) size ≡ size)
none_start [] size i e = (refl, refl)
none_start (f ∷ fs) size zero e = absurd (cc e)
none_start (f ∷ fs) size (suc i) e = none_start fs size i e

-- ---- arrays

pub array_size : (ls : List Layout) (w : CType) (n : ℕ) → size_of ls (array w n) ≡ n * size_of ls w
array_size ls w n = by (measure ls w)
  where
    by : (o : Option Measure) → (unwrap_or (option_map (array_measure n) o) no_measure).size ≡ n * (unwrap_or o no_measure).size
    by None = grind arith
    by (Some m) = refl

element_sized : (ls : List Layout) (w : CType) (n : ℕ) → has_size ls (array w n) ≡ true → has_size ls w ≡ true
element_sized ls w n e = by (measure ls w) e
  where
    by : (o : Option Measure) → is_some (option_map (array_measure n) o) ≡ true → is_some o ≡ true
    by None h = no h
    by (Some m) h = refl

-- what has a size is not without a length
pub sized_length : (ls : List Layout) (t : CType) → has_size ls t ≡ true → is_unsized t ≡ false
sized_length ls (unsized w) e = no e
sized_length ls _ e = refl

-- ---- each part has a size

in_array : (b : Bool) (w u : CType) → (if b then Some w else None) ≡ Some u → w ≡ u
in_array true w u e = cc e
in_array false w u e = absurd (cc e)

in_struct : (ls : List Layout) (o : Option Layout) (i : ℕ) (u : CType) → ((l : Layout) → o ≡ Some l → FieldsStand ls 0 l.fields l.measure.size)
    → option_and_then (λ (l : Layout). option_map (λ (f : Field). f.type) (slice_get l.fields i)) o ≡ Some u → has_size ls u ≡ true
in_struct ls None i u h e = absurd (cc e)
in_struct ls (Some l) i u h e = by (slice_get l.fields i) refl e
  where
    by : (f : Option Field) → slice_get l.fields i ≡ f → option_map (λ (x : Field). x.type) f ≡ Some u → has_size ls u ≡ true
    by None g k = absurd (cc k)
    by (Some f) g k =
        let same : f.type ≡ u = cc k in
        ap (λ x. has_size ls x) (sym same) ∙ (field_stands ls 0 l.fields l.measure.size i f (h l refl) g).sized

pub part_sized : (ls : List Layout) (t : CType) (i : ℕ) (u : CType) → AllLaid ls → MayHold ls t → part_type ls t i ≡ Some u → has_size ls u ≡ true
part_sized ls (array w n) i u laid (inl h) e = ap (λ x. has_size ls x) (sym (in_array (nat_lt i n) w u e)) ∙ element_sized ls w n h
part_sized ls (array w n) i u laid (inr h) e = no h.0
part_sized ls (unsized w) i u laid (inl h) e = no h
part_sized ls (unsized w) i u laid (inr h) e = let same : w ≡ u = cc e in ap (λ x. has_size ls x) (sym same) ∙ h.1
part_sized ls (struct k) i u laid (inl h) e = in_struct ls (layout_of ls k) i u (λ l g. laid k l g) e
part_sized ls (struct k) i u laid (inr h) e = no h.0
part_sized ls (integer k) i u laid h e = let same : integer k ≡ u = cc e in ap (λ x. has_size ls x) (sym same)
part_sized ls (pointer w) i u laid h e = let same : pointer w ≡ u = cc e in ap (λ x. has_size ls x) (sym same)
part_sized ls void i u laid (inl h) e = no h
part_sized ls void i u laid (inr h) e = no h.0
part_sized ls (function r ps) i u laid (inl h) e = no h
part_sized ls (function r ps) i u laid (inr h) e = no h.0
