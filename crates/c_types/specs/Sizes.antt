-- The types of a table, with their sizes, alignments and offsets.
use Rattle.std.specs.Prelude.{◌≡◌, ℕ, ◌*◌, List, [], ◌∷◌, Option, Some, None, slice_get, map, if◌then◌else◌, option_and_then, option_map}
use Rattle.std.specs.Str.{bytes_eq}
use Rattle.c_types.specs.declared.kind.TypeId.{TypeId}
use Rattle.c_types.specs.declared.kind.StructId.{StructId}
use Rattle.c_types.specs.declared.kind.TypeKind.{TypeKind}
use Rattle.c_types.specs.declared.kind.TypeKind.TheVariants.{Void, Bool as BoolKind, Char, SChar, UChar, Short, UShort, Int, UInt, Long, ULong, Pointer, Array, Struct, Function}
use Rattle.c_types.specs.declared.kind.Measure.{Measure}
use Rattle.c_types.specs.InOrder.{offsets, end_of, greatest_align, least_multiple}

pub record Member : Type 0 where
  pub name : List ℕ
  pub type : TypeId

-- the types, each at the place that its id names; and for each struct its members, where it is closed (6.2.5, 22)
pub record Table : Type 0 where
  pub kinds : List TypeKind
  pub structs : List (Option (List Member))

abbrev pub no_types : Table
no_types = record { kinds = []; structs = [] }

-- the kind of this type, where it is there
abbrev pub kind_at : Table → TypeId → Option TypeKind
kind_at t id = slice_get t.kinds id.number

-- this type is there, with this kind
abbrev pub Has : Table → TypeId → TypeKind → Type 0
Has t id kind = kind_at t id ≡ Some kind

-- the struct is there, and is open or closed with these members
abbrev pub IsOpen : Table → StructId → Type 0
IsOpen t s = slice_get t.structs s.number ≡ Some None

abbrev pub IsClosed : Table → StructId → List Member → Type 0
IsClosed t s members = slice_get t.structs s.number ≡ Some (Some members)

-- ---- sizes and alignments (6.2.5, 6.2.6.1)

-- so many bytes, aligned to their number
abbrev pub alone : ℕ → Option Measure
alone n = Some (record { size = n; align = n })

-- of types that are not made of parts; a pointer has four bytes
abbrev pub basic_measure : TypeKind → Option Measure
basic_measure BoolKind = alone 1
basic_measure Char = alone 1
basic_measure SChar = alone 1
basic_measure UChar = alone 1
basic_measure Short = alone 2
basic_measure UShort = alone 2
basic_measure Int = alone 4
basic_measure UInt = alone 4
basic_measure Long = alone 4
basic_measure ULong = alone 4
basic_measure (Pointer to) = alone 4
basic_measure kind = None

-- of so many elements one behind the other (6.2.5, 20)
abbrev pub array_measure : ℕ → Measure → Measure
array_measure count m = record { size = count * m.size; align = m.align }

-- of members in order: the alignment is the greatest of theirs, and the end is rounded up to it (6.7.2.1, 12 to 15)
abbrev pub struct_measure : List Measure → Measure
struct_measure ms = record { size = least_multiple (greatest_align ms) (end_of ms); align = greatest_align ms }

mutual
  -- a type of this kind has this size and alignment
  pub data Measures (t : Table) : TypeKind → Measure → Type 0 where
    basic : (kind : TypeKind) (m : Measure) → basic_measure kind ≡ Some m → Measures t kind m
    array : (element : TypeId) (count : ℕ) (kind : TypeKind) (m : Measure) → Has t element kind → Measures t kind m
        → Measures t (Array element count) (array_measure count m)
    struct : (s : StructId) (members : List Member) (ms : List Measure) → IsClosed t s members → MeasuresAll t members ms
        → Measures t (Struct s) (struct_measure ms)

  -- these members have these sizes and alignments
  pub data MeasuresAll (t : Table) : List Member → List Measure → Type 0 where
    no_members : MeasuresAll t [] []
    a_member : (member : Member) (kind : TypeKind) (m : Measure) (members : List Member) (ms : List Measure)
        → Has t member.type kind → Measures t kind m → MeasuresAll t members ms → MeasuresAll t (member ∷ members) (m ∷ ms)

-- the type has this size and alignment
abbrev pub IsMeasured : Table → TypeId → Measure → Type 0
IsMeasured t id m = (kind : TypeKind) × Has t id kind × Measures t kind m

-- the type has a size
abbrev pub IsSized : Table → TypeId → Type 0
IsSized t id = (m : Measure) × IsMeasured t id m

abbrev pub HasSize : Table → TypeId → ℕ → Type 0
HasSize t id size = (align : ℕ) × IsMeasured t id (record { size = size; align = align })

-- a type without a size: void, a function, or a struct that is open (6.2.5, 1)
abbrev pub HasNone : Table → TypeKind → Type 0
HasNone t Void = Unit {0}
HasNone t (Function gives takes) = Unit {0}
HasNone t (Struct s) = IsOpen t s
HasNone t kind = ⊥

abbrev pub IsIncomplete : Table → TypeId → Type 0
IsIncomplete t id = (kind : TypeKind) × Has t id kind × HasNone t kind

-- ---- members (6.7.2.1, 13)

-- the offset and the type of the member of this name
abbrev pub member_of : List ℕ → List Member → List ℕ → Option (ℕ × TypeId)
member_of name (member ∷ members) (offset ∷ offsets) = if bytes_eq name member.name then Some (offset, member.type) else member_of name members offsets
member_of name members offsets = None

abbrev pub HasMember : Table → StructId → List ℕ → ℕ → TypeId → Type 0
HasMember t s name offset type = (members : List Member) × (ms : List Measure) × IsClosed t s members × MeasuresAll t members ms
    × (member_of name members (offsets ms) ≡ Some (offset, type))

-- the offset and the type of the member of this index
abbrev pub part_at : ℕ → List Member → List ℕ → Option (ℕ × TypeId)
part_at index members offsets =
    option_and_then (λ (member : Member). option_map (λ offset. (offset, member.type)) (slice_get offsets index)) (slice_get members index)

-- the members of a struct; an open one has none so far
abbrev pub members_in : Option (Option (List Member)) → List Member
members_in (Some (Some members)) = members
members_in body = []

abbrev pub members_of : Table → StructId → List Member
members_of t s = members_in (slice_get t.structs s.number)

abbrev pub names_of : List Member → List (List ℕ)
names_of members = map (λ member. member.name) members
