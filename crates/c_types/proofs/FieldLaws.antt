-- The members of a struct: their sizes, their fields, their names.
use Rattle.std.proofs.Common.{◌≡◌, ℕ, suc, ◌+◌, ◌<◌, ◌≤◌, ◌||◌, Bool, true, false, List, [], ◌∷◌, Option, Some, None, map, drop, length, get_or, if◌then◌else◌, refl, sym, ap, ap₂, subst, ◌∙◌}
use Rattle.std.specs.Prelude.{slice_get, slice_set, ◌↔◌}
use Rattle.std.specs.List.{list_any}
use Rattle.std.specs.Option.{option_map}
use Rattle.std.specs.Str.{bytes_eq}
use Rattle.std.proofs.Math.Seq.{drop-cons}
use Rattle.std.proofs.lemmas.List.{drop_all, map-set}
use Rattle.c_types.specs.declared.kind.TypeId.{TypeId}
use Rattle.c_types.specs.declared.kind.StructId.{StructId}
use Rattle.c_types.specs.declared.kind.TypeKind.{TypeKind}
use Rattle.c_types.specs.declared.kind.Measure.{Measure}
use Rattle.c_types.specs.declared.kind.TheConstants.{MAX_SIZE}
use Rattle.c_types.specs.declared.types.Field.{Field}
use Rattle.c_types.specs.declared.types.Body.{Body}
use Rattle.c_types.specs.InOrder.{offsets, offsets_from, least_multiple}
use Rattle.c_types.specs.Sizes as sizes
use Rattle.c_types.specs.Sizes.{Table, Member, HasMember, IsClosed, IsMeasured, IsOpen, MeasuresAll, no_members, a_member, names_of, part_at, struct_measure}
use Rattle.c_types.specs.Tables.{StructFits, closed, members_from}
use Rattle.c_types.specs.Kept.{IsKept, IsLaid, member_of, members_of, table_of}
use Rattle.c_types.proofs.ReadLaws.{body_at, laid_at}
use Rattle.c_types.proofs.SizeLaws.{one_each}

-- the offset and the type of the first field of this name
abbrev pub named : List ℕ → List Field → Option (ℕ × TypeId)
named name fields = sizes.member_of name (map member_of fields) (map (λ (field : Field). field.offset) fields)

-- ---- the sizes of members

pub length-offsets_from : (end : ℕ) (ms : List Measure) → length (offsets_from end ms) ≡ length ms
length-offsets_from end [] = refl
length-offsets_from end (m ∷ ms) = ap suc (length-offsets_from (least_multiple m.align end + m.size) ms)

pub all_long : {t : Table} {members : List Member} {ms : List Measure} → MeasuresAll t members ms → length ms ≡ length members
all_long no_members = refl
all_long (a_member member kind m members ms has own all) = ap suc (all_long all)

-- one more member is measured
pub measures_go_on : (t : Table) (members : List (List ℕ × TypeId)) (i : ℕ) (member : List ℕ × TypeId) (m : Measure) (rest : List Measure) → i < length members
    → member ≡ get_or members i member → IsMeasured t member.1 m → MeasuresAll t (members_from (drop (suc i) members)) rest → MeasuresAll t (members_from (drop i members)) (m ∷ rest)
measures_go_on t members i member m rest within is measured all =
    let split = drop-cons members i member within ∙ ap (λ x. x ∷ drop (suc i) members) (sym is) in
    subst (λ left. MeasuresAll t (members_from left) (m ∷ rest)) (sym split)
    (a_member (record { name = member.0; type = member.1 }) measured.0 m (members_from (drop (suc i) members)) rest measured.1 measured.2 all)

pub none_left_to_measure : (t : Table) (members : List (List ℕ × TypeId)) (i : ℕ) → length members ≤ i → MeasuresAll t (members_from (drop i members)) []
none_left_to_measure t members i past = subst (λ left. MeasuresAll t (members_from left) []) (sym (drop_all i members past)) no_members

-- ---- a struct is closed

pub view_closed : (kinds : List (TypeKind × Option Measure)) (structs : List (Option Body)) (s : StructId) (body : Body)
    → table_of kinds (slice_set structs s.number (Some body)) ≡ closed (table_of kinds structs) s (members_of body)
view_closed kinds structs s body =
    ap (λ ss. record { kinds = map (λ (k : TypeKind × Option Measure). k.0) kinds; structs = ss }) (map-set (option_map members_of) structs s.number (Some body))

pub laid_fits : (t : Table) (body : Body) → IsLaid t (Some body) → StructFits t (members_of body)
laid_fits t body laid = λ ms all.
    let same = laid.3 ∙ ap struct_measure (one_each laid.1 ms all) in
    let low = laid.4 in
    subst (λ (x : Measure). x.size ≤ MAX_SIZE) same low

-- ---- the member of a name

named_none : (name : List ℕ) (fields : List Field) → (named name fields ≡ None) ↔ (list_any (bytes_eq name) (names_of (map member_of fields)) ≡ false)
named_none name [] = (λ e. refl, λ e. refl)
named_none name (field ∷ fields) = by (bytes_eq name field.name) (named_none name fields)
  where
    by : (b : Bool) → (named name fields ≡ None) ↔ (list_any (bytes_eq name) (names_of (map member_of fields)) ≡ false)
        → ((if b then Some (field.offset, field.kind) else named name fields) ≡ None) ↔ ((b || list_any (bytes_eq name) (names_of (map member_of fields))) ≡ false)
    by true rest = (λ e. cc, λ e. cc)
    by false rest = rest

module _ (kinds : List (TypeKind × Option Measure)) (structs : List (Option Body)) (kept : IsKept kinds structs) (s : StructId) (name : List ℕ) where
  module _ (body : Body) (at : slice_get structs s.number ≡ Some (Some body)) where
    pub member_is : (offset : ℕ) (type : TypeId) → (named name body.fields ≡ Some (offset, type)) ↔ HasMember (table_of kinds structs) s name offset type
    member_is offset type =
        let laid = laid_at kinds structs s (Some body) at kept in
        let here = body_at kinds structs s (Some body) at in (
          λ e. (members_of body, laid.0, here, laid.1, ap (sizes.member_of name (members_of body)) (sym laid.2) ∙ e),
          λ has.
              let same : has.0 ≡ members_of body = let there = has.2 in cc in
              let all = subst (λ members. MeasuresAll (table_of kinds structs) members has.1) same has.3 in
              ap₂ (sizes.member_of name) (sym same) (laid.2 ∙ ap offsets (one_each laid.1 has.1 all)) ∙ has.4,
        )

    pub no_member : (named name body.fields ≡ None) ↔ (list_any (bytes_eq name) (names_of (sizes.members_of (table_of kinds structs) s)) ≡ false)
    no_member = subst (λ (b : Option (Option (List Member))). (named name body.fields ≡ None) ↔ (list_any (bytes_eq name) (names_of (sizes.members_in b)) ≡ false)) (sym (body_at kinds structs s (Some body) at)) (named_none name body.fields)

  module _ (at : slice_get structs s.number ≡ Some None) where
    pub open_member_is : (offset : ℕ) (type : TypeId) → (◌≡◌ {A = Option (ℕ × TypeId)} None (Some (offset, type))) ↔ HasMember (table_of kinds structs) s name offset type
    open_member_is offset type = (λ e. cc, λ has. let here = body_at kinds structs s None at in let there = has.2 in cc)

    pub open_no_member : (◌≡◌ {A = Option (ℕ × TypeId)} None None) ↔ (list_any (bytes_eq name) (names_of (sizes.members_of (table_of kinds structs) s)) ≡ false)
    open_no_member = (λ e. ap (λ (b : Option (Option (List Member))). list_any (bytes_eq name) (names_of (sizes.members_in b))) (body_at kinds structs s None at), λ e. refl)

-- ---- the member of an index

-- the offset and the type of the field of this index
abbrev pub at_place : ℕ → List Field → Option (ℕ × TypeId)
at_place index fields = part_at index (map member_of fields) (map (λ (field : Field). field.offset) fields)

module _ (kinds : List (TypeKind × Option Measure)) (structs : List (Option Body)) (s : StructId) where
  pub part_is : IsKept kinds structs → (index : ℕ) (body : Body) → slice_get structs s.number ≡ Some (Some body) → (members : List Member) (ms : List Measure)
      → IsClosed (table_of kinds structs) s members → MeasuresAll (table_of kinds structs) members ms → at_place index body.fields ≡ part_at index members (offsets ms)
  part_is kept index body at members ms closed all =
      let laid = laid_at kinds structs s (Some body) at kept in
      let here = body_at kinds structs s (Some body) at in
      let same : members ≡ members_of body = cc (sym closed ∙ here) in
      let measured = subst (λ xs. MeasuresAll (table_of kinds structs) xs ms) same all in
      ap₂ (part_at index) (sym same) (laid.2 ∙ ap offsets (one_each laid.1 ms measured))

  pub open_part : (body : Body) → slice_get structs s.number ≡ Some (Some body) → (found : Option (ℕ × TypeId)) → IsOpen (table_of kinds structs) s → found ≡ None
  open_part body at found unclosed = absurd (cc (sym unclosed ∙ body_at kinds structs s (Some body) at))

  pub closed_part : (index : ℕ) → slice_get structs s.number ≡ Some None → (members : List Member) (ms : List Measure)
      → IsClosed (table_of kinds structs) s members → MeasuresAll (table_of kinds structs) members ms → ◌≡◌ {A = Option (ℕ × TypeId)} None (part_at index members (offsets ms))
  closed_part index at members ms closed all = absurd (cc (sym closed ∙ body_at kinds structs s None at))
