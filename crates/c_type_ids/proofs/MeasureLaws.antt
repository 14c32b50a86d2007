-- The size of a type by its id, and by the rules.
use Rattle.std.proofs.Common.{◌≡◌, ◌↔◌, ℕ, List, refl, sym, ap, ◌∙◌, subst, Option, Some, None}
use Rattle.std.specs.Prelude.{option_map, unwrap_or}
use Rattle.c_types.specs.declared.kind.TypeId.{TypeId}
use Rattle.c_types.specs.declared.kind.StructId.{StructId}
use Rattle.c_types.specs.declared.kind.TypeKind.{TypeKind}
use Rattle.c_types.specs.declared.kind.TypeKind.TheVariants as kind
use Rattle.c_types.specs.declared.kind.Measure.{Measure}
use Rattle.c_types.specs.Sizes as sizes
use Rattle.c_types.specs.Sizes.{Table, Member, Has, HasNone, HasSize, IsClosed, IsOpen, IsMeasured, IsIncomplete, Measures, basic_measure, array_measure, struct_measure}
use Rattle.c_types.specs.Tables.{IsThere, PartsAreThere}
use Rattle.c_types.proofs.SizeLaws.{told, none_kind, one_measure}
use Rattle.std.proofs.lemmas.Option.{slice_get_within}
use Rattle.c_typing.specs.Types as types
use Rattle.c_typing.specs.Types.{IntegerType, CType, void, integer, pointer, array, unsized, struct, function, Layout, layout_of, measure, align_of, no_measure, traits_of}
use Rattle.c_type_ids.specs.Integers.{kind_of}
use Rattle.c_type_ids.specs.Ids.{Known, Names, Shows, shown_by, LaidAs, AreLaid, struct_by}

one_kind : (t : Table) (a : TypeId) {k l : TypeKind} → Has t a k → Has t a l → k ≡ l
one_kind t a h i = let same = sym h ∙ i in cc same

integer_measure : (t : IntegerType) → basic_measure (kind_of t) ≡ Some (record { size = (traits_of t).size; align = (traits_of t).size })
integer_measure types.bool = refl
integer_measure types.char = refl
integer_measure types.schar = refl
integer_measure types.uchar = refl
integer_measure types.short = refl
integer_measure types.ushort = refl
integer_measure types.int = refl
integer_measure types.uint = refl
integer_measure types.long = refl
integer_measure types.ulong = refl

pub names_there : (k : Known) (id : TypeId) (t : CType) → Names k id t → IsThere k.table id
names_there k id void h = slice_get_within k.table.kinds id.number kind.Void h
names_there k id (integer t) h = slice_get_within k.table.kinds id.number (kind_of t) h
names_there k id (pointer t) (to, h, i) = slice_get_within k.table.kinds id.number (kind.Pointer to) h
names_there k id (array t n) (element, h, i) = slice_get_within k.table.kinds id.number (kind.Array element n) h
names_there k id (unsized t) h = absurd h
names_there k id (struct node) (s, h, i) = slice_get_within k.table.kinds id.number (kind.Struct s) h
names_there k id (function t ts) (gives, takes, h, i, j) = slice_get_within k.table.kinds id.number (kind.Function gives takes) h

module _ (k : Known) (layouts : List Layout) (laid : AreLaid k layouts) where
  -- the measure of a kind that the type has
  with_kind : (id : TypeId) (m : Measure) (t : TypeKind) → Has k.table id t → IsMeasured k.table id m → Measures k.table t m
  with_kind id m t h (u, i, measured) = subst (λ v. Measures k.table v m) (one_kind k.table id i h) measured

  of_struct : (s : StructId) (node : ℕ) (m : Measure) → struct_by k.structs node ≡ Some s → Measures k.table (kind.Struct s) m
      → option_map (λ (l : Layout). l.measure) (layout_of layouts node) ≡ Some m
  of_struct s node m e measured = by (layout_of layouts node) (subst (λ o. LaidAs k o (layout_of layouts node)) e (laid node))
    where
      by : (l : Option Layout) → LaidAs k (Some s) l → option_map (λ (l : Layout). l.measure) l ≡ Some m
      by None unclosed = absurd (none_kind measured unclosed)
      by (Some l) h = ap Some (h.whole ∙ one_measure (sizes.struct s h.members h.measures h.closed h.measured) m measured)

  pub measured_is : (id : TypeId) (t : CType) (m : Measure) → Names k id t → IsMeasured k.table id m → measure layouts t ≡ Some m
  measured_is id void m h i = absurd (none_kind (with_kind id m kind.Void h i) tt)
  measured_is id (integer t) m h i = ap Some (one_measure (sizes.basic (kind_of t) (record { size = (traits_of t).size; align = (traits_of t).size }) (integer_measure t)) m (with_kind id m (kind_of t) h i))
  measured_is id (pointer t) m (to, h, n) i = ap Some (one_measure (sizes.basic (kind.Pointer to) (record { size = 4; align = 4 }) refl) m (with_kind id m (kind.Pointer to) h i))
  measured_is id (array t n) m (element, h, named) i =
      let (own, inner, has, measured, e) = told (with_kind id m (kind.Array element n) h i) in
      ap (option_map (array_measure n)) (measured_is element t inner named (own, has, measured)) ∙ ap Some (sym e)
  measured_is id (unsized t) m h i = absurd h
  measured_is id (struct node) m (s, h, e) i = of_struct s node m e (with_kind id m (kind.Struct s) h i)
  measured_is id (function t ts) m (gives, takes, h, a, b) i = absurd (none_kind (with_kind id m (kind.Function gives takes) h i) tt)

  -- no size
  none_of : (id : TypeId) (t : TypeKind) → Has k.table id t → IsIncomplete k.table id → HasNone k.table t
  none_of id t h (u, i, none) = subst (HasNone k.table) (one_kind k.table id i h) none

  pub incomplete_is : (id : TypeId) (t : CType) → Names k id t → IsIncomplete k.table id → measure layouts t ≡ None
  incomplete_is id void h i = refl
  incomplete_is id (integer t) h i = absurd (none_kind {t = k.table} (sizes.basic (kind_of t) (record { size = (traits_of t).size; align = (traits_of t).size }) (integer_measure t)) (none_of id (kind_of t) h i))
  incomplete_is id (pointer t) (to, h, n) i = absurd (none_of id (kind.Pointer to) h i)
  incomplete_is id (array t n) (element, h, named) i = absurd (none_of id (kind.Array element n) h i)
  incomplete_is id (unsized t) h i = absurd h
  incomplete_is id (struct node) (s, h, e) i = by (layout_of layouts node) (subst (λ o. LaidAs k o (layout_of layouts node)) e (laid node)) (none_of id (kind.Struct s) h i)
    where
      by : (l : Option Layout) → LaidAs k (Some s) l → IsOpen k.table s → option_map (λ (l : Layout). l.measure) l ≡ None
      by None h o = refl
      by (Some l) h o = let closed = h.closed in absurd (cc (sym closed ∙ o))
  incomplete_is id (function t ts) (gives, takes, h, a, b) i = refl

  pub size_told : (id : TypeId) (t : CType) (size : Option ℕ) → Names k id t → ((n : ℕ) → (size ≡ Some n) ↔ HasSize k.table id n) → (size ≡ None) ↔ IsIncomplete k.table id
      → size ≡ option_map (λ (m : Measure). m.size) (measure layouts t)
  size_told id t None h some none = sym (ap (option_map (λ (m : Measure). m.size)) (incomplete_is id t h (none.0 refl)))
  size_told id t (Some n) h some none =
      let (align, measured) = (some n).0 refl in
      sym (ap (option_map (λ (m : Measure). m.size)) (measured_is id t (record { size = n; align = align }) h measured))

  pub align_told : (id : TypeId) (t : CType) (align : ℕ) (m : Measure) → Names k id t → IsMeasured k.table id m → align ≡ m.align → align ≡ align_of layouts t
  align_told id t align m h measured e = e ∙ sym (ap (λ o. (unwrap_or o no_measure).align) (measured_is id t m h measured))

-- ---- kinds

integer_shown : (k : Known) (t : IntegerType) → Shows k (shown_by (kind_of t)) (integer t)
integer_shown k types.bool = refl
integer_shown k types.char = refl
integer_shown k types.schar = refl
integer_shown k types.uchar = refl
integer_shown k types.short = refl
integer_shown k types.ushort = refl
integer_shown k types.int = refl
integer_shown k types.uint = refl
integer_shown k types.long = refl
integer_shown k types.ulong = refl

pub kind_shown : (k : Known) (id : TypeId) (u : TypeKind) (t : CType) → Has k.table id u → PartsAreThere k.table u → Names k id t → Shows k (shown_by u) t
kind_shown k id u void h p n = subst (λ v. Shows k (shown_by v) void) (one_kind k.table id n h) tt
kind_shown k id u (integer t) h p n = subst (λ v. Shows k (shown_by v) (integer t)) (one_kind k.table id n h) (integer_shown k t)
kind_shown k id u (pointer t) h p (to, has, named) = subst (λ v. Shows k (shown_by v) (pointer t)) (one_kind k.table id has h) named
kind_shown k id u (array t n) h p (element, has, named) =
    subst (λ v. Shows k (shown_by v) (array t n)) (one_kind k.table id has h) (named, refl, subst (PartsAreThere k.table) (one_kind k.table id h has) p)
kind_shown k id u (unsized t) h p n = absurd n
kind_shown k id u (struct node) h p (s, has, e) = subst (λ v. Shows k (shown_by v) (struct node)) (one_kind k.table id has h) e
kind_shown k id u (function t ts) h p (gives, takes, has, a, b) = subst (λ v. Shows k (shown_by v) (function t ts)) (one_kind k.table id has h) a
