-- What is read of a table.
use Rattle.std.proofs.Common.{◌≡◌, ℕ, zero, suc, ◌≤◌, List, [], ◌∷◌, length, get_or, map, Option, Some, None, refl, sym, ap, subst, ◌∙◌, arith, IfSome, IfNone}
use Rattle.std.specs.Prelude.{slice_get, ◌↔◌}
use Rattle.std.specs.Option.{option_map}
use Rattle.std.proofs.lemmas.List.{length-map}
use Rattle.std.proofs.lemmas.Option.{slice_get-map, slice_get_read}
use Rattle.c_types.specs.declared.kind.TypeId.{TypeId}
use Rattle.c_types.specs.declared.kind.StructId.{StructId}
use Rattle.c_types.specs.declared.kind.TypeKind.{TypeKind}
use Rattle.c_types.specs.declared.kind.TypeKind.TheVariants.{Void, Array, Struct, Function}
use Rattle.c_types.specs.declared.kind.Measure.{Measure}
use Rattle.c_types.specs.declared.kind.TheConstants.{MAX_SIZE}
use Rattle.c_types.specs.declared.types.Body.{Body}
use Rattle.c_types.specs.Sizes.{Table, Member, Has, HasNone, HasSize, IsIncomplete, IsMeasured, IsOpen, Measures, basic, array, struct, array_measure, basic_measure}
use Rattle.c_types.specs.Tables.{Fits, IsStruct}
use Rattle.c_types.specs.Kept.{IsKept, IsKnown, IsLaid, WaitsForStruct, members_of, table_of}
use Rattle.c_types.proofs.KeptLaws.{all_got}
use Rattle.c_types.proofs.SizeLaws.{none_kind, none_measured, one_measure, one_measured, told}

-- ---- a type

waits : (t : Table) (kind : TypeKind) → WaitsForStruct kind → ((s : StructId) → kind ≡ Struct s → ⊥) → HasNone t kind
waits t Void h other = tt
waits t (Function gives takes) h other = tt
waits t (Struct s) h other = absurd (other s refl)
waits t kind h other = h

module _ (kinds : List (TypeKind × Option Measure)) (structs : List (Option Body)) (kept : IsKept kinds structs) (id : TypeId) (kind : TypeKind) where
  pub has_at : (known : Option Measure) → slice_get kinds id.number ≡ Some (kind, known) → Has (table_of kinds structs) id kind
  has_at known at = slice_get-map (λ (k : TypeKind × Option Measure). k.0) kinds id.number ∙ ap (option_map (λ k. k.0)) at

  known_at : (known : Option Measure) → slice_get kinds id.number ≡ Some (kind, known) → IsKnown (table_of kinds structs) kind known
  known_at known at = all_got (λ (k : TypeKind × Option Measure). IsKnown (table_of kinds structs) k.0 k.1) kinds id.number (kind, known) at kept.known

  pub read_some : (known : Option Measure) → slice_get kinds id.number ≡ Some (kind, known) → IfSome known (λ m. IsMeasured (table_of kinds structs) id m × (m.size ≤ MAX_SIZE))
  read_some None at = tt
  read_some (Some m) at = let own = known_at (Some m) at in ((kind, has_at (Some m) at, own.0), own.1)

  pub read_none : (known : Option Measure) → slice_get kinds id.number ≡ Some (kind, known) → ((s : StructId) → kind ≡ Struct s → ⊥) → IfNone known (IsIncomplete (table_of kinds structs) id)
  read_none None at other = (kind, has_at None at, waits (table_of kinds structs) kind (known_at None at) other)
  read_none (Some m) at other = tt

-- ---- a struct

module _ (kinds : List (TypeKind × Option Measure)) (structs : List (Option Body)) (s : StructId) (body : Option Body) (at : slice_get structs s.number ≡ Some body) where
  pub body_at : slice_get (table_of kinds structs).structs s.number ≡ Some (option_map members_of body)
  body_at = slice_get-map (option_map members_of) structs s.number ∙ ap (option_map (option_map members_of)) at

  pub laid_at : IsKept kinds structs → IsLaid (table_of kinds structs) body
  laid_at kept = all_got (IsLaid (table_of kinds structs)) structs s.number body at kept.laid

pub struct_measured : (kinds : List (TypeKind × Option Measure)) (structs : List (Option Body)) (s : StructId) (body : Body) → slice_get structs s.number ≡ Some (Some body)
    → IsKept kinds structs → Measures (table_of kinds structs) (Struct s) body.measure × (body.measure.size ≤ MAX_SIZE)
struct_measured kinds structs s body at kept =
    let own = laid_at kinds structs s (Some body) at kept in
    (subst (Measures (table_of kinds structs) (Struct s)) (sym own.3) (struct s (members_of body) own.0 (body_at kinds structs s (Some body) at) own.1), own.4)

-- a place of a list is within it, as a place of the table
pub body_read : (kinds : List (TypeKind × Option Measure)) (structs : List (Option Body)) (s : StructId) (body : Option Body) → IsStruct (table_of kinds structs) s
    → body ≡ get_or structs s.number body → slice_get structs s.number ≡ Some body
body_read kinds structs s body within is =
    let long = length-map structs (option_map members_of) in
    slice_get_read structs (length structs) s.number body refl (omega (arith, within, long)) is

pub open_measured : (t : Table) (id : TypeId) (kind : TypeKind) (s : StructId) (found : Option Measure) → Has t id kind → kind ≡ Struct s
    → IfNone found (IsOpen t s) → IfNone found (IsIncomplete t id)
open_measured t id kind s None has is h = (kind, has, subst (HasNone t) (sym is) h)
open_measured t id kind s (Some m) has is h = tt

-- ---- the size of a type

pub size_is : (t : Table) (id : TypeId) (m : Measure) (size : ℕ) → IsMeasured t id m → (Some m.size ≡ Some size) ↔ HasSize t id size
size_is t id m size measured = (
  λ e. (m.align, subst (λ n. IsMeasured t id (record { size = n; align = m.align })) (cc) measured),
  λ has. ap (λ (x : Measure). Some x.size) (one_measured t id m _ measured has.1),
)

pub no_size : (t : Table) (id : TypeId) (size : ℕ) → IsIncomplete t id → (None ≡ Some size) ↔ HasSize t id size
no_size t id size none = (λ e. absurd (none_some e), λ has. absurd (none_measured t id _ has.1 none))
  where
    none_some : None ≡ Some size → ⊥
    none_some e = cc

pub some_size : (t : Table) (id : TypeId) (m : Measure) → IsMeasured t id m → (Some m.size ≡ None) ↔ IsIncomplete t id
some_size t id m measured = (λ e. absurd (some_none e), λ none. absurd (none_measured t id m measured none))
  where
    some_none : Some m.size ≡ None → ⊥
    some_none e = cc

-- ---- a kind

pub array_measured : (t : Table) (element : TypeId) (count : ℕ) (m : Measure) → IsMeasured t element m → Measures t (Array element count) (array_measure count m)
array_measured t element count m measured = array element count measured.0 m measured.1 measured.2

pub basic_known : (t : Table) (kind : TypeKind) → ((element : TypeId) (count : ℕ) → kind ≡ Array element count → ⊥) → IsKnown t kind (basic_measure kind)
basic_known t (Array element count) other = absurd (other element count refl)
basic_known t Void other = tt
basic_known t (Function gives takes) other = tt
basic_known t (Struct s) other = tt
basic_known t kind other = (basic kind _ refl, omega arith)

-- ---- what fits

closed_got : (structs : List (Option Body)) (i : ℕ) (members : List Member) → slice_get (map (option_map members_of) structs) i ≡ Some (Some members)
    → (body : Body) × (slice_get structs i ≡ Some (Some body))
closed_got [] i members e = absurd (none_some e)
  where
    none_some : None ≡ Some (Some members) → ⊥
    none_some e = cc
closed_got (None ∷ rest) zero members e = absurd (none_some e)
  where
    none_some : Some None ≡ Some (Some members) → ⊥
    none_some e = cc
closed_got (Some body ∷ rest) zero members e = (body, refl)
closed_got (x ∷ rest) (suc i) members e = closed_got rest i members e

pub known_fits : (kinds : List (TypeKind × Option Measure)) (structs : List (Option Body)) (kind : TypeKind) (known : Option Measure) → IsKept kinds structs
    → IsKnown (table_of kinds structs) kind known → Fits (table_of kinds structs) kind
known_fits kinds structs kind (Some m) kept own = λ n measured. let same = one_measure measured m own.0 in let low = own.1 in subst (λ (x : Measure). x.size ≤ MAX_SIZE) (sym same) low
known_fits kinds structs Void None kept own = λ n measured. absurd (none_kind measured tt)
known_fits kinds structs (Function gives takes) None kept own = λ n measured. absurd (none_kind measured tt)
known_fits kinds structs (Struct s) None kept own = λ n measured.
    let h = told measured in
    let at = closed_got structs s.number h.0 h.2 in
    let laid = struct_measured kinds structs s at.0 at.1 kept in
    let low = laid.1 in
    subst (λ (x : Measure). x.size ≤ MAX_SIZE) (one_measure laid.0 n measured) low
known_fits kinds structs kind None kept own = absurd own
