-- What a table keeps of its types.
use Rattle.std.specs.Prelude.{◌≡◌, ◌≤◌, List, Option, Some, None, map}
use Rattle.std.specs.List.{AllByRecursion}
use Rattle.std.specs.Option.{option_map}
use Rattle.c_types.specs.declared.kind.TypeKind.{TypeKind}
use Rattle.c_types.specs.declared.kind.TypeKind.TheVariants.{Void, Struct, Function}
use Rattle.c_types.specs.declared.kind.Measure.{Measure}
use Rattle.c_types.specs.declared.kind.TheConstants.{MAX_SIZE}
use Rattle.c_types.specs.declared.types.Field.{Field}
use Rattle.c_types.specs.declared.types.Body.{Body}
use Rattle.c_types.specs.InOrder.{offsets}
use Rattle.c_types.specs.Sizes.{Member, Table, Measures, MeasuresAll, struct_measure}
use Rattle.c_types.specs.Tables.{PartsAreThere}

abbrev pub member_of : Field → Member
member_of field = record { name = field.name; type = field.kind }

abbrev pub members_of : Body → List Member
members_of body = map member_of body.fields

abbrev pub table_of : List (TypeKind × Option Measure) → List (Option Body) → Table
table_of kinds structs = record { kinds = map (λ k. k.0) kinds; structs = map (option_map members_of) structs }

-- a kind whose size is not kept beside it: it has none, or it is a struct
abbrev pub WaitsForStruct : TypeKind → Type 0
WaitsForStruct Void = Unit {0}
WaitsForStruct (Function gives takes) = Unit {0}
WaitsForStruct (Struct s) = Unit {0}
WaitsForStruct kind = ⊥

-- the size and alignment of a kind, and that it is within the limit
abbrev pub IsKnown : Table → TypeKind → Option Measure → Type 0
IsKnown t kind (Some m) = Measures t kind m × (m.size ≤ MAX_SIZE)
IsKnown t kind None = WaitsForStruct kind

-- the same of a struct, and the offsets of its members
abbrev pub IsLaid : Table → Option Body → Type 0
IsLaid t None = Unit {0}
IsLaid t (Some body) = (ms : List Measure) × MeasuresAll t (members_of body) ms × (map (λ field. field.offset) body.fields ≡ offsets ms)
    × (body.measure ≡ struct_measure ms) × (body.measure.size ≤ MAX_SIZE)

pub record IsKept (kinds : List (TypeKind × Option Measure)) (structs : List (Option Body)) : Type 0 where
  pub parts : AllByRecursion (λ k. PartsAreThere (table_of kinds structs) k.0) kinds
  pub known : AllByRecursion (λ k. IsKnown (table_of kinds structs) k.0 k.1) kinds
  pub laid : AllByRecursion (IsLaid (table_of kinds structs)) structs
