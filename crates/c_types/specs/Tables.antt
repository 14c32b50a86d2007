-- How a table of types changes.
use Rattle.std.specs.Prelude.{◌≡◌, ◌⊎◌, ℕ, ◌<◌, ◌≤◌, ◌-◌, ◌^◌, min, List, [], ◌∷◌, ◌++◌, length, Some, None, slice_set, map}
use Rattle.std.specs.List.{AllByRecursion}
use Rattle.c_types.specs.declared.kind.TypeId.{TypeId}
use Rattle.c_types.specs.declared.kind.StructId.{StructId}
use Rattle.c_types.specs.declared.kind.TypeKind.{TypeKind}
use Rattle.c_types.specs.declared.kind.TypeKind.TheVariants.{Pointer, Array, Struct, Function}
use Rattle.c_types.specs.declared.kind.Measure.{Measure}
use Rattle.c_types.specs.declared.kind.TheConstants.{MAX_SIZE}
use Rattle.c_types.specs.Sizes.{Table, Member, Has, IsMeasured, IsOpen, Measures, MeasuresAll, IsSized, struct_measure}

abbrev pub IsThere : Table → TypeId → Type 0
IsThere t id = id.number < length t.kinds

abbrev pub IsStruct : Table → StructId → Type 0
IsStruct t s = s.number < length t.structs

-- what a type is made of is there, and the elements of an array have a size (6.2.5, 20)
abbrev pub PartsAreThere : Table → TypeKind → Type 0
PartsAreThere t (Pointer to) = IsThere t to
PartsAreThere t (Array element count) = IsSized t element
PartsAreThere t (Struct s) = IsStruct t s
PartsAreThere t (Function gives takes) = IsThere t gives × AllByRecursion (IsThere t) takes
PartsAreThere t kind = Unit {0}

-- this size is above the limit
abbrev pub IsTooBig : ℕ → Type 0
IsTooBig size = MAX_SIZE < size

-- a type of this kind is within the limit, where it has a size
abbrev pub Fits : Table → TypeKind → Type 0
Fits t kind = (m : Measure) → Measures t kind m → m.size ≤ MAX_SIZE

-- each type is still there, and what has a size and an alignment keeps them
pub record KeepsSizes (old new : Table) : Type 0 where
  pub there : (id : TypeId) → IsThere old id → IsThere new id
  pub types : (id : TypeId) (m : Measure) → IsMeasured old id m → IsMeasured new id m
  pub kinds : (kind : TypeKind) (m : Measure) → Measures old kind m → Measures new kind m

-- ---- a type is added

pub record IsAdded (old : Table) (kind : TypeKind) (id : TypeId) (new : Table) : Type 0 where
  pub there : IsThere new id
  pub found : Has new id kind
  -- two types of one kind are one type (6.2.7)
  pub one : (other : TypeId) → Has new other kind → other ≡ id
  pub rest : (new ≡ old) ⊎ (new ≡ record old { kinds = old.kinds ++ kind ∷ [] })

-- ---- a struct is opened and closed

pub record IsOpened (old : Table) (s : StructId) (new : Table) : Type 0 where
  pub place : s.number ≡ length old.structs
  pub unclosed : IsOpen new s
  pub rest : new ≡ record old { structs = old.structs ++ None ∷ [] }

abbrev pub members_from : List (List ℕ × TypeId) → List Member
members_from members = map (λ m. record { name = m.0; type = m.1 }) members

abbrev pub closed : Table → StructId → List Member → Table
closed t s members = record t { structs = slice_set t.structs s.number (Some members) }

-- a struct with these members is within the limit
abbrev pub StructFits : Table → List Member → Type 0
StructFits t members = (ms : List Measure) → MeasuresAll t members ms → (struct_measure ms).size ≤ MAX_SIZE

-- or it is not; a size that is above the greatest number is told as that number
abbrev pub StructIsTooBig : Table → List Member → ℕ → Type 0
StructIsTooBig t members size = (ms : List Measure) × MeasuresAll t members ms × IsTooBig (struct_measure ms).size
    × (size ≡ min (struct_measure ms).size (2 ^ 64 - 1))
