-- Which type an id names.
use Rattle.std.specs.Prelude.{◌≡◌, ◌<◌, ◌≤◌, ◌-◌, ◌^◌, ◌++◌, ℕ, min, List, [], ◌∷◌, Option, Some, None, get_or, length}
use Rattle.c_types.specs.declared.kind.TypeId.{TypeId}
use Rattle.c_types.specs.declared.kind.StructId.{StructId}
use Rattle.c_types.specs.declared.kind.TypeKind.{TypeKind}
use Rattle.c_types.specs.declared.kind.TypeKind.TheVariants as kind
use Rattle.c_types.specs.Sizes.{Table, Member, Has, IsOpen, IsClosed, IsSized, MeasuresAll, struct_measure}
use Rattle.c_types.specs.Tables.{IsStruct, IsThere}
use Rattle.c_typing.specs.Types.{CType, CTypes, void, integer, pointer, array, unsized, struct, function, no_types, a_type, Field, Layout, layout_of}
use Rattle.c_types.specs.declared.kind.Measure.{Measure}
use Rattle.c_types.specs.InOrder.{offsets}
use Rattle.c_types.specs.declared.kind.TheConstants.{MAX_SIZE}
use Rattle.c_typing.specs.Declarators.{layout}
use Rattle.c_type_ids.specs.declared.integers.Integer.TheVariants as number
use Rattle.c_type_ids.specs.declared.kinds.Kind.{Kind}
use Rattle.c_type_ids.specs.declared.kinds.Kind.TheVariants as shown
use Rattle.c_type_ids.specs.Integers.{kind_of, integer_of}

-- the types that are there, and for each node the struct that it declares, where it has been named
pub record Known : Type 0 where
  pub table : Table
  pub structs : List (Option StructId)

-- the struct that a node declares
abbrev pub struct_by : List (Option StructId) → ℕ → Option StructId
struct_by structs node = get_or structs node None

abbrev mutual
  -- the id names this type
  pub Names : Known → TypeId → CType → Type 0
  Names k id void = Has k.table id kind.Void
  Names k id (integer t) = Has k.table id (kind_of t)
  Names k id (pointer t) = (to : TypeId) × Has k.table id (kind.Pointer to) × Names k to t
  Names k id (array t n) = (element : TypeId) × Has k.table id (kind.Array element n) × Names k element t
  Names k id (unsized t) = ⊥
  Names k id (struct node) = (s : StructId) × Has k.table id (kind.Struct s) × (struct_by k.structs node ≡ Some s)
  Names k id (function t ts) = (gives : TypeId) × (takes : List TypeId) × Has k.table id (kind.Function gives takes) × Names k gives t × NamesAll k takes ts

  pub NamesAll : Known → List TypeId → CTypes → Type 0
  NamesAll k [] no_types = Unit {0}
  NamesAll k (id ∷ ids) (a_type t ts) = Names k id t × NamesAll k ids ts
  NamesAll k ids ts = ⊥

-- two ids of one kind are one, and so are two nodes of one struct
pub record AreDistinct (k : Known) : Type 0 where
  pub kinds : (a b : TypeId) (t : TypeKind) → Has k.table a t → Has k.table b t → a ≡ b
  pub nodes : (a b : ℕ) (s : StructId) → struct_by k.structs a ≡ Some s → struct_by k.structs b ≡ Some s → a ≡ b
  pub there : (node : ℕ) (s : StructId) → struct_by k.structs node ≡ Some s → IsStruct k.table s

-- ---- what a type is

abbrev pub Shows : Known → Kind → CType → Type 0
Shows k shown.Void void = Unit {0}
Shows k (shown.Integer i) (integer t) = integer_of i ≡ t
Shows k (shown.Pointer to) (pointer t) = Names k to t
Shows k (shown.Array element n) (array t m) = Names k element t × (n ≡ m) × IsSized k.table element
Shows k (shown.Struct s) (struct node) = struct_by k.structs node ≡ Some s
Shows k (shown.Function gives) (function t ts) = Names k gives t
Shows k kind t = ⊥

-- ---- structs with their bodies (6.7.2.1)

-- members with these names, types and offsets
abbrev pub AreFields : Known → List Member → List ℕ → List Field → Type 0
AreFields k [] [] [] = Unit {0}
AreFields k (member ∷ members) (offset ∷ offsets) (field ∷ fields) =
    (member.name ≡ field.name) × (offset ≡ field.offset) × Names k member.type field.type × AreFields k members offsets fields
AreFields k members offsets fields = ⊥

-- a struct is closed, and is laid out so
pub record IsLaid (k : Known) (s : StructId) (l : Layout) : Type 0 where
  pub members : List Member
  pub measures : List Measure
  pub closed : IsClosed k.table s members
  pub measured : MeasuresAll k.table members measures
  pub fields : AreFields k members (offsets measures) l.fields
  pub whole : l.measure ≡ struct_measure measures

abbrev pub LaidAs : Known → Option StructId → Option Layout → Type 0
LaidAs k None None = Unit {0}
LaidAs k (Some s) None = IsOpen k.table s
LaidAs k (Some s) (Some l) = IsLaid k s l
LaidAs k s l = ⊥

-- these are the structs that are complete
abbrev pub AreLaid : Known → List Layout → Type 0
AreLaid k layouts = (node : ℕ) → LaidAs k (struct_by k.structs node) (layout_of layouts node)

-- ---- what is known stays known

pub record Keeps (old new : Known) : Type 0 where
  pub types : (id : TypeId) (t : TypeKind) → Has old.table id t → Has new.table id t
  pub structs : (node : ℕ) (s : StructId) → struct_by old.structs node ≡ Some s → struct_by new.structs node ≡ Some s
  pub there : (id : TypeId) → IsThere old.table id → IsThere new.table id
  pub sized : (id : TypeId) → IsSized old.table id → IsSized new.table id
  pub long : length new.structs ≡ length old.structs

-- and no struct is closed
pub record Grows (old new : Known) : Type 0 where
  pub keeps : Keeps old new
  pub laid : (layouts : List Layout) → AreLaid old layouts → AreLaid new layouts

-- an offset and a type are those of a field
abbrev pub IsField : Known → Option (ℕ × TypeId) → Option Field → Type 0
IsField k None None = Unit {0}
IsField k (Some (offset, id)) (Some field) = (offset ≡ field.offset) × Names k id field.type
IsField k found field = ⊥

-- ---- members of a struct that is closed

-- these members, with types that are known, are those fields
abbrev pub AreMembers : Known → List (List ℕ × TypeId) → List Field → Type 0
AreMembers k [] [] = Unit {0}
AreMembers k (member ∷ members) (field ∷ fields) = (member.0 ≡ field.name) × Names k member.1 field.type × AreMembers k members fields
AreMembers k members fields = ⊥

-- the struct is closed with these members: where they are those fields, its layout is that of the rules, and is within the limit
pub record IsClosedBy (old new : Known) (s : StructId) (members : List (List ℕ × TypeId)) : Type 0 where
  pub keeps : Keeps old new
  pub laid : (node : ℕ) (layouts : List Layout) (fields : List Field) → struct_by old.structs node ≡ Some s → AreLaid old layouts → AreMembers old members fields
      → AreLaid new (layouts ++ layout layouts node fields ∷ [])
  pub fits : (node : ℕ) (layouts : List Layout) (fields : List Field) → AreLaid old layouts → AreMembers old members fields → (layout layouts node fields).measure.size ≤ MAX_SIZE

-- that layout is above the limit; a size above the greatest number is told as that number
abbrev pub IsTooBigBy : Known → StructId → List (List ℕ × TypeId) → ℕ → Type 0
IsTooBigBy old s members size = (node : ℕ) (layouts : List Layout) (fields : List Field) → AreLaid old layouts → AreMembers old members fields
    → (MAX_SIZE < (layout layouts node fields).measure.size) × (size ≡ min (layout layouts node fields).measure.size (2 ^ 64 - 1))

-- the kind of a type, as it is shown
abbrev pub shown_by : TypeKind → Kind
shown_by kind.Void = shown.Void
shown_by kind.Bool = shown.Integer number.Bool
shown_by kind.Char = shown.Integer number.Char
shown_by kind.SChar = shown.Integer number.SChar
shown_by kind.UChar = shown.Integer number.UChar
shown_by kind.Short = shown.Integer number.Short
shown_by kind.UShort = shown.Integer number.UShort
shown_by kind.Int = shown.Integer number.Int
shown_by kind.UInt = shown.Integer number.UInt
shown_by kind.Long = shown.Integer number.Long
shown_by kind.ULong = shown.Integer number.ULong
shown_by (kind.Pointer to) = shown.Pointer to
shown_by (kind.Array element n) = shown.Array element n
shown_by (kind.Struct s) = shown.Struct s
shown_by (kind.Function gives takes) = shown.Function gives
