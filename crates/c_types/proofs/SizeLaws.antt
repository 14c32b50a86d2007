-- Sizes and alignments: a type has at most one, and those that have none have none.
use Rattle.std.proofs.Common.{◌≡◌, ℕ, ◌*◌, ◌/◌, ◌%◌, max, List, [], ◌∷◌, Some, refl, sym, ap, ap₂, subst, ◌∙◌, arith, inl, inr}
use Rattle.std.proofs.Math.Nat.{mod-add-div', mul-mod_left, mul_assoc}
use Rattle.std.proofs.lemmas.Bool.{cases_lt}
use Rattle.c_types.specs.declared.kind.TypeId.{TypeId}
use Rattle.c_types.specs.declared.kind.TypeKind.{TypeKind}
use Rattle.c_types.specs.declared.kind.TypeKind.TheVariants.{Void, Bool as BoolKind, Char, SChar, UChar, Short, UShort, Int, UInt, Long, ULong, Pointer, Array, Struct, Function}
use Rattle.c_types.specs.declared.kind.Measure.{Measure}
use Rattle.c_types.specs.InOrder.{AreAligned, greatest_align}
use Rattle.c_types.specs.Sizes.{Table, Member, Has, HasNone, IsClosed, IsMeasured, IsIncomplete, Measures, basic, array, struct, MeasuresAll, no_members, a_member, alone, array_measure, basic_measure, struct_measure}
use Rattle.c_types.specs.WellMade.{IsAlignment}
use Rattle.c_types.proofs.OrderLaws.{some_alignment}

-- ---- what has a size, by its kind

abbrev pub Told : Table → TypeKind → Measure → Type 0
Told t (Array element count) m = (kind : TypeKind) × (own : Measure) × Has t element kind × Measures t kind own × (m ≡ array_measure count own)
Told t (Struct s) m = (members : List Member) × (ms : List Measure) × IsClosed t s members × MeasuresAll t members ms × (m ≡ struct_measure ms)
Told t kind m = basic_measure kind ≡ Some m

basic_told : (t : Table) (kind : TypeKind) (m : Measure) → basic_measure kind ≡ Some m → Told t kind m
basic_told t (Array element count) m e = cc
basic_told t (Struct s) m e = cc
basic_told t kind m e = e

pub told : {t : Table} {kind : TypeKind} {m : Measure} → Measures t kind m → Told t kind m
told {t} (basic kind m e) = basic_told t kind m e
told (array element count kind m has d) = (kind, m, has, d, refl)
told (struct s members ms closed all) = (members, ms, closed, all, refl)

same_basic : (t : Table) (kind : TypeKind) (m n : Measure) → basic_measure kind ≡ Some m → Told t kind n → m ≡ n
same_basic t (Array element count) m n e d = cc
same_basic t (Struct s) m n e d = cc
same_basic t kind m n e d = cc

-- ---- one size

-- of members too
abbrev pub ToldAll : Table → List Member → List Measure → Type 0
ToldAll t [] ns = ns ≡ []
ToldAll t (member ∷ members) ns = (kind : TypeKind) × (own : Measure) × (rest : List Measure) × Has t member.type kind × Measures t kind own
    × MeasuresAll t members rest × (ns ≡ own ∷ rest)

pub told_all : {t : Table} {members : List Member} {ms : List Measure} → MeasuresAll t members ms → ToldAll t members ms
told_all no_members = refl
told_all (a_member member kind m members ms has own all) = (kind, m, ms, has, own, all, refl)

mutual
  pub one_measure : {t : Table} {kind : TypeKind} {m : Measure} → Measures t kind m → (n : Measure) → Measures t kind n → m ≡ n
  one_measure {t} (basic kind m e) n d = same_basic t kind m n e (told d)
  one_measure {t} (array element count kind m has own) n d =
      let h = told d in
      let same : kind ≡ h.0 = let other = h.2 in cc in
      ap (array_measure count) (one_measure own h.1 (subst (λ k. Measures t k h.1) (sym same) h.3)) ∙ sym h.4
  one_measure {t} (struct s members ms closed all) n d =
      let h = told d in
      let same : members ≡ h.0 = let other = h.2 in cc in
      ap struct_measure (one_each all h.1 (subst (λ x. MeasuresAll t x h.1) (sym same) h.3)) ∙ sym h.4

  pub one_each : {t : Table} {members : List Member} {ms : List Measure} → MeasuresAll t members ms → (ns : List Measure) → MeasuresAll t members ns → ms ≡ ns
  one_each no_members ns d = sym (told_all d)
  one_each {t} (a_member member kind m members ms has own all) ns d =
      let h = told_all d in
      let same : kind ≡ h.0 = let other = h.3 in cc in
      ap₂ (λ x xs. x ∷ xs) (one_measure own h.1 (subst (λ k. Measures t k h.1) (sym same) h.4)) (one_each all h.2 h.5) ∙ sym h.6

pub one_measured : (t : Table) (id : TypeId) (m n : Measure) → IsMeasured t id m → IsMeasured t id n → m ≡ n
one_measured t id m n a b =
    let same : a.0 ≡ b.0 = let x = a.1 in let y = b.1 in cc in
    one_measure a.2 n (subst (λ k. Measures t k n) (sym same) b.2)

-- ---- no size

none_told : (t : Table) (kind : TypeKind) (m : Measure) → Told t kind m → HasNone t kind → ⊥
none_told t Void m e h = cc
none_told t (Function gives takes) m e h = cc
none_told t (Struct s) m d unclosed = let closed = d.2 in cc
none_told t kind m e h = h

pub none_kind : {t : Table} {kind : TypeKind} {m : Measure} → Measures t kind m → HasNone t kind → ⊥
none_kind {t} {kind} {m} measured none = none_told t kind m (told measured) none

pub none_measured : (t : Table) (id : TypeId) (m : Measure) → IsMeasured t id m → IsIncomplete t id → ⊥
none_measured t id m a b =
    let same : b.0 ≡ a.0 = let x = a.1 in let y = b.1 in cc in
    none_told t a.0 m (told a.2) (subst (HasNone t) same b.2)

-- ---- alignments

align_alone : (n : ℕ) (m : Measure) → alone n ≡ Some m → m.align ≡ n
align_alone n m e =
    let same : record { size = n; align = n } ≡ m = cc in
    ap (λ (x : Measure). x.align) (sym same)

basic_align : (kind : TypeKind) (m : Measure) → basic_measure kind ≡ Some m → IsAlignment m.align
basic_align BoolKind m e = inl (align_alone 1 m e)
basic_align Char m e = inl (align_alone 1 m e)
basic_align SChar m e = inl (align_alone 1 m e)
basic_align UChar m e = inl (align_alone 1 m e)
basic_align Short m e = inr (inl (align_alone 2 m e))
basic_align UShort m e = inr (inl (align_alone 2 m e))
basic_align Int m e = inr (inr (align_alone 4 m e))
basic_align UInt m e = inr (inr (align_alone 4 m e))
basic_align Long m e = inr (inr (align_alone 4 m e))
basic_align ULong m e = inr (inr (align_alone 4 m e))
basic_align (Pointer to) m e = inr (inr (align_alone 4 m e))
basic_align kind m e = cc

max_align : (a b : ℕ) → IsAlignment a → IsAlignment b → IsAlignment (max a b)
max_align a b x y = elim (cases_lt a b) [
  | inl less ↦ subst IsAlignment {x = b} (omega (arith, less)) y
  | inr more ↦ subst IsAlignment {x = a} (omega (arith, more)) x
]

mutual
  pub align_is : {t : Table} {kind : TypeKind} {m : Measure} → Measures t kind m → IsAlignment m.align
  align_is (basic kind m e) = basic_align kind m e
  align_is (array element count kind m has own) = align_is own
  align_is (struct s members ms closed all) = aligns_are all

  pub aligns_are : {t : Table} {members : List Member} {ms : List Measure} → MeasuresAll t members ms → IsAlignment (greatest_align ms)
  aligns_are no_members = inl refl
  aligns_are (a_member member kind m members ms has own all) = max_align m.align (greatest_align ms) (align_is own) (aligns_are all)

pub all_aligned : {t : Table} {members : List Member} {ms : List Measure} → MeasuresAll t members ms → AreAligned ms
all_aligned no_members = tt
all_aligned (a_member member kind m members ms has own all) = (some_alignment m.align (align_is own), all_aligned all)

-- ---- a size is a multiple of the alignment

whole_alone : (n : ℕ) (m : Measure) → alone n ≡ Some m → m.size ≡ m.align
whole_alone n m e =
    let same : record { size = n; align = n } ≡ m = cc in
    subst (λ (x : Measure). x.size ≡ x.align) same refl

basic_whole : (kind : TypeKind) (m : Measure) → basic_measure kind ≡ Some m → m.size ≡ m.align
basic_whole BoolKind m e = whole_alone 1 m e
basic_whole Char m e = whole_alone 1 m e
basic_whole SChar m e = whole_alone 1 m e
basic_whole UChar m e = whole_alone 1 m e
basic_whole Short m e = whole_alone 2 m e
basic_whole UShort m e = whole_alone 2 m e
basic_whole Int m e = whole_alone 4 m e
basic_whole UInt m e = whole_alone 4 m e
basic_whole Long m e = whole_alone 4 m e
basic_whole ULong m e = whole_alone 4 m e
basic_whole (Pointer to) m e = whole_alone 4 m e
basic_whole kind m e = cc

array_whole : (count size align : ℕ) → size % align ≡ 0 → (count * size) % align ≡ 0
array_whole count size align whole =
    let parts : size / align * align ≡ size = let m = mod-add-div' size align in omega (arith, m, whole) in
    ap (λ n. count * n % align) (sym parts) ∙ ap (λ n. n % align) (sym (mul_assoc count (size / align) align)) ∙ mul-mod_left (count * (size / align)) align

pub size_whole : {t : Table} {kind : TypeKind} {m : Measure} → Measures t kind m → m.size % m.align ≡ 0
size_whole (basic kind m e) = ap (λ n. n % m.align) {x = m.size} {y = 1 * m.align} (let same = basic_whole kind m e in omega (arith, same)) ∙ mul-mod_left 1 m.align
size_whole (array element count kind m has own) = array_whole count m.size m.align (size_whole own)
size_whole (struct s members ms closed all) = mul-mod_left _ (greatest_align ms)
