-- A member by its name.
use Rattle.std.proofs.Common.{◌≡◌, ◌↔◌, Bool, true, false, ℕ, zero, suc, List, [], ◌∷◌, refl, sym, ap, ◌∙◌, subst, Option, Some, None}
use Rattle.std.specs.Prelude.{find, if◌then◌else◌, option_and_then, slice_get}
use Rattle.std.specs.List.{list_any}
use Rattle.std.specs.Str.{bytes_eq}
use Rattle.c_types.specs.declared.kind.TypeId.{TypeId}
use Rattle.c_types.specs.declared.kind.StructId.{StructId}
use Rattle.c_types.specs.declared.kind.Measure.{Measure}
use Rattle.c_types.specs.InOrder.{offsets}
use Rattle.c_types.specs.Sizes.{Member, HasMember, IsClosed, IsOpen, MeasuresAll, member_of, members_of, members_in, names_of, part_at}
use Rattle.std.proofs.lemmas.Slice.Eq.{bytes_eq-Decides}
use Rattle.std.proofs.lemmas.Bool.Decides.{same_from_decides}
use Rattle.c_types.proofs.SizeLaws.{one_each}
use Rattle.c_typing.specs.Types.{Field, Layout, layout_of, struct}
use Rattle.c_typing.specs.Expressions.{field_of}
use Rattle.c_type_ids.specs.Ids.{Known, AreFields, IsField, LaidAs, AreLaid, struct_by}

same_test : (a b : List ℕ) → bytes_eq a b ≡ bytes_eq b a
same_test a b =
    let other = bytes_eq-Decides b a in
    same_from_decides (bytes_eq a b) (bytes_eq b a) (bytes_eq-Decides a b) (λ e. sym (other.0 e), λ e. other.1 (sym e))

-- in members and fields that are the same
found_among : (k : Known) (name : List ℕ) (members : List Member) (os : List ℕ) (fields : List Field) → AreFields k members os fields
    → IsField k (member_of name members os) (find (λ (field : Field). bytes_eq field.name name) fields)
found_among k name [] [] [] h = tt
found_among k name [] [] (f ∷ fs) h = absurd h
found_among k name [] (o ∷ os) fs h = absurd h
found_among k name (m ∷ ms) [] fs h = absurd h
found_among k name (m ∷ ms) (o ∷ os) [] h = absurd h
found_among k name (m ∷ ms) (o ∷ os) (f ∷ fs) (named, at, n, more) =
    subst (λ b. IsField k (if bytes_eq name m.name then Some (o, m.type) else member_of name ms os) (if b then Some f else find (λ (field : Field). bytes_eq field.name name) fs))
    (same_test name m.name ∙ ap (λ x. bytes_eq x name) named) (by (found_among k name ms os fs more) (bytes_eq name m.name))
  where
    by : IsField k (member_of name ms os) (find (λ (field : Field). bytes_eq field.name name) fs) → (b : Bool) → IsField k (if b then Some (o, m.type) else member_of name ms os) (if b then Some f else find (λ (field : Field). bytes_eq field.name name) fs)
    by later true = (at, n)
    by later false = later

-- what is found is the only answer
answer_is : (k : Known) (s : StructId) (name : List ℕ) (found : Option (ℕ × TypeId)) (members : List Member) (ms : List Measure)
    → ((offset : ℕ) (type : TypeId) → (found ≡ Some (offset, type)) ↔ HasMember k.table s name offset type)
    → IsClosed k.table s members → MeasuresAll k.table members ms → found ≡ member_of name members (offsets ms)
answer_is k s name found members ms h closed measured = by found (member_of name members (offsets ms)) refl h
  where
    by : (r other : Option (ℕ × TypeId)) → member_of name members (offsets ms) ≡ other → ((offset : ℕ) (type : TypeId) → (r ≡ Some (offset, type)) ↔ HasMember k.table s name offset type)
        → r ≡ member_of name members (offsets ms)
    by None None e i = sym e
    by r (Some (offset, type)) e i = (i offset type).1 (members, ms, closed, measured, e) ∙ sym e
    by (Some (offset, type)) None e i =
        let (others, sizes, is, are, at) = (i offset type).0 refl in
        let same : others ≡ members = cc (sym is ∙ closed) in
        let sizes_same = one_each are ms (subst (λ xs. MeasuresAll k.table xs ms) (sym same) measured) in
        absurd (cc (sym (subst (λ xs. member_of name xs (offsets ms) ≡ Some (offset, type)) same (subst (λ ys. member_of name others (offsets ys) ≡ Some (offset, type)) sizes_same at)) ∙ e))

pub member_found : (k : Known) (s : StructId) (name : List ℕ) (found : Option (ℕ × TypeId))
    → ((offset : ℕ) (type : TypeId) → (found ≡ Some (offset, type)) ↔ HasMember k.table s name offset type)
    → (found ≡ None) ↔ (list_any (bytes_eq name) (names_of (members_of k.table s)) ≡ false)
    → (node : ℕ) (layouts : List Layout) → struct_by k.structs node ≡ Some s → AreLaid k layouts → IsField k found (field_of layouts (struct node) name)
member_found k s name found some none node layouts e laid = by (layout_of layouts node) (subst (λ o. LaidAs k o (layout_of layouts node)) e (laid node))
  where
    by : (l : Option Layout) → LaidAs k (Some s) l → IsField k found (option_and_then (λ (l : Layout). find (λ field. bytes_eq field.name name) l.fields) l)
    by None unclosed = subst (λ r. IsField k r None) (sym (none.1 (ap (λ b. list_any (bytes_eq name) (names_of (members_in b))) unclosed))) tt
    by (Some l) h =
        subst (λ r. IsField k r (find (λ (field : Field). bytes_eq field.name name) l.fields)) (sym (answer_is k s name found h.members h.measures some h.closed h.measured))
        (found_among k name h.members (offsets h.measures) l.fields h.fields)

-- ---- a member by its index

part_among : (k : Known) (index : ℕ) (members : List Member) (os : List ℕ) (fields : List Field) → AreFields k members os fields
    → IsField k (part_at index members os) (slice_get fields index)
part_among k index [] [] [] h = tt
part_among k index [] [] (f ∷ fs) h = absurd h
part_among k index [] (o ∷ os) fs h = absurd h
part_among k index (m ∷ ms) [] fs h = absurd h
part_among k index (m ∷ ms) (o ∷ os) [] h = absurd h
part_among k zero (m ∷ ms) (o ∷ os) (f ∷ fs) (named, at, n, more) = (at, n)
part_among k (suc index) (m ∷ ms) (o ∷ os) (f ∷ fs) (named, at, n, more) = part_among k index ms os fs more

pub part_found : (k : Known) (s : StructId) (index : ℕ) (found : Option (ℕ × TypeId))
    → ((members : List Member) (ms : List Measure) → IsClosed k.table s members → MeasuresAll k.table members ms → found ≡ part_at index members (offsets ms))
    → (IsOpen k.table s → found ≡ None)
    → (node : ℕ) (layouts : List Layout) → struct_by k.structs node ≡ Some s → AreLaid k layouts
    → IsField k found (option_and_then (λ (l : Layout). slice_get l.fields index) (layout_of layouts node))
part_found k s index found closed unclosed node layouts e laid = by (layout_of layouts node) (subst (λ o. LaidAs k o (layout_of layouts node)) e (laid node))
  where
    by : (l : Option Layout) → LaidAs k (Some s) l → IsField k found (option_and_then (λ (l : Layout). slice_get l.fields index) l)
    by None h = subst (λ r. IsField k r None) (sym (unclosed h)) tt
    by (Some l) h =
        subst (λ r. IsField k r (slice_get l.fields index)) (sym (closed h.members h.measures h.closed h.measured))
        (part_among k index h.members (offsets h.measures) l.fields h.fields)
