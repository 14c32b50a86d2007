-- A struct gets its members.
use Rattle.std.proofs.Common.{◌≡◌, ◌≢◌, ◌⊎◌, inl, inr, Bool, true, false, ℕ, zero, suc, ◌-◌, ◌^◌, ◌<◌, min, List, [], ◌∷◌, ◌++◌, length, map, refl, sym, ap, ◌∙◌, subst, arith, Option, Some, None}
use Rattle.c_types.specs.declared.types.TypeFault.{TypeFault}
use Rattle.std.specs.Prelude.{Result, Ok, Err, OnOk, OnErr, slice_get, slice_set, nat_eq, unwrap_or, if◌then◌else◌, ◌==◌}
use Rattle.std.specs.List.{AllByRecursion}
use Rattle.std.proofs.lemmas.Bool.{eq-eqb}
use Rattle.std.proofs.lemmas.Bool.Decides.{eqb_tells}
use Rattle.std.proofs.lemmas.List.{length-set}
use Rattle.c_types.specs.declared.kind.TypeId.{TypeId}
use Rattle.c_types.specs.declared.kind.StructId.{StructId}
use Rattle.c_types.specs.declared.kind.TheConstants.{MAX_SIZE}
use Rattle.c_types.specs.declared.kind.Measure.{Measure}
use Rattle.c_types.specs.InOrder.{offsets}
use Rattle.c_types.specs.Sizes.{Table, Member, IsOpen, IsSized, MeasuresAll, no_members, a_member, struct_measure}
use Rattle.c_types.specs.Tables.{KeepsSizes, StructFits, StructIsTooBig, closed, members_from}
use Rattle.c_types.proofs.SizeLaws.{one_each}
use Rattle.c_types.proofs.FieldLaws.{length-offsets_from}
use Rattle.c_typing.specs.Types.{CType, Field, Layout, layout_of, measure, no_measure}
use Rattle.c_typing.specs.Declarators.{layout, laid}
use Rattle.c_type_ids.specs.Ids.{Known, Names, AreDistinct, AreFields, AreMembers, IsClosedBy, IsTooBigBy, IsLaid, LaidAs, AreLaid, struct_by}
use Rattle.c_type_ids.proofs.IdLaws.{names_grow}
use Rattle.c_type_ids.proofs.MeasureLaws.{measured_is}

abbrev measures_of : List Layout → List Field → List Measure
measures_of ls fields = map (λ (f : Field). unwrap_or (measure ls f.type) no_measure) fields

-- the members have the sizes that the rules say
module _ (k : Known) (layouts : List Layout) (ok : AreLaid k layouts) where
  pub all_measured : (members : List (List ℕ × TypeId)) (fields : List Field) → AreMembers k members fields → AllByRecursion (λ m. IsSized k.table m.1) members
      → MeasuresAll k.table (members_from members) (measures_of layouts fields)
  all_measured [] [] h sized = no_members
  all_measured [] (f ∷ fs) h sized = absurd h
  all_measured (m ∷ ms) [] h sized = absurd h
  all_measured (m ∷ ms) (f ∷ fs) (named, n, more) ((own, (kind, has, measured)), others) =
      let e = ap (λ o. unwrap_or o no_measure) (measured_is k layouts ok m.1 f.type own n (kind, has, measured)) in
      subst (λ x. MeasuresAll k.table (members_from (m ∷ ms)) (x ∷ measures_of layouts fs)) (sym e)
      (a_member (record { name = m.0; type = m.1 }) kind own (members_from ms) (measures_of layouts fs) has measured (all_measured ms fs more others))

  -- and the fields of the layout are those members, each at its offset
  fields_laid : (members : List (List ℕ × TypeId)) (fields : List Field) (os : List ℕ) → length os ≡ length fields → AreMembers k members fields
      → AreFields k (members_from members) os (laid fields os)
  fields_laid [] [] [] e h = tt
  fields_laid [] [] (o ∷ os) e h = absurd (omega (arith, e))
  fields_laid [] (f ∷ fs) os e h = absurd h
  fields_laid (m ∷ ms) [] os e h = absurd h
  fields_laid (m ∷ ms) (f ∷ fs) [] e h = absurd (omega (arith, e))
  fields_laid (m ∷ ms) (f ∷ fs) (o ∷ os) e (named, n, more) = (named, refl, n, fields_laid ms fs os (omega (arith, e)) more)

find-append : (ls : List Layout) (l : Layout) (node : ℕ) → layout_of ls node ≡ None → layout_of (ls ++ l ∷ []) node ≡ (if l.number == node then Some l else None)
find-append [] l node e = refl
find-append (x ∷ ls) l node e = by (λ h. find-append ls l node h) (x.number == node) e
  where
    by : (layout_of ls node ≡ None → layout_of (ls ++ l ∷ []) node ≡ (if l.number == node then Some l else None)) → (b : Bool) → (if b then Some x else layout_of ls node) ≡ None → (if b then Some x else layout_of (ls ++ l ∷ []) node) ≡ (if l.number == node then Some l else None)
    by later true h = absurd (cc h)
    by later false h = later h

find-before : (ls : List Layout) (l x : Layout) (node : ℕ) → layout_of ls node ≡ Some x → layout_of (ls ++ l ∷ []) node ≡ Some x
find-before [] l x node e = absurd (cc e)
find-before (y ∷ ls) l x node e = by (λ h. find-before ls l x node h) (y.number == node) e
  where
    by : (layout_of ls node ≡ Some x → layout_of (ls ++ l ∷ []) node ≡ Some x) → (b : Bool) → (if b then Some y else layout_of ls node) ≡ Some x → (if b then Some y else layout_of (ls ++ l ∷ []) node) ≡ Some x
    by later true h = h
    by later false h = later h

at_set : {A : Type 0} (xs : List A) (i : ℕ) (a b : A) → slice_get xs i ≡ Some b → slice_get (slice_set xs i a) i ≡ Some a
at_set [] i a b e = absurd (cc e)
at_set (x ∷ xs) zero a b e = refl
at_set (x ∷ xs) (suc i) a b e = at_set xs i a b e

at_other : {A : Type 0} (xs : List A) (i j : ℕ) (a : A) → j ≢ i → slice_get (slice_set xs i a) j ≡ slice_get xs j
at_other [] i j a h = refl
at_other (x ∷ xs) zero zero a h = absurd (h refl)
at_other (x ∷ xs) zero (suc j) a h = refl
at_other (x ∷ xs) (suc i) zero a h = refl
at_other (x ∷ xs) (suc i) (suc j) a h = at_other xs i j a (λ e. h (ap suc e))

-- ---- a struct is closed

module _ (k : Known) (d : AreDistinct k) (s : StructId) (members : List (List ℕ × TypeId)) (unclosed : IsOpen k.table s) (sized : AllByRecursion (λ m. IsSized k.table m.1) members)
    (sizes : KeepsSizes k.table (closed k.table s (members_from members))) where
  after : Known
  after = record { table = closed k.table s (members_from members); structs = k.structs }

  names_kept : (id : TypeId) (t : CType) → Names k id t → Names (record { table = closed k.table s (members_from members); structs = k.structs }) id t
  names_kept = names_grow k (record { table = closed k.table s (members_from members); structs = k.structs }) (λ id t h. h) (λ node r h. h)

  measures_kept : (ms : List Member) (os : List Measure) → MeasuresAll k.table ms os → MeasuresAll (closed k.table s (members_from members)) ms os
  measures_kept ms os no_members = no_members
  measures_kept ms os (a_member member kind m more rest h i j) = a_member member kind m more rest h (sizes.kinds kind m i) (measures_kept more rest j)

  fields_kept : (ms : List Member) (os : List ℕ) (fields : List Field) → AreFields k ms os fields → AreFields (record { table = closed k.table s (members_from members); structs = k.structs }) ms os fields
  fields_kept [] [] [] h = tt
  fields_kept [] [] (f ∷ fs) h = absurd h
  fields_kept [] (o ∷ os) fs h = absurd h
  fields_kept (m ∷ ms) [] fs h = absurd h
  fields_kept (m ∷ ms) (o ∷ os) [] h = absurd h
  fields_kept (m ∷ ms) (o ∷ os) (f ∷ fs) (a, b, c, e) = (a, b, names_kept m.type f.type c, fields_kept ms os fs e)

  -- another struct is as before
  body_kept : (r : StructId) → r.number ≢ s.number → slice_get (closed k.table s (members_from members)).structs r.number ≡ slice_get k.table.structs r.number
  body_kept r h = at_other k.table.structs s.number r.number (Some (members_from members)) h

  laid_kept : (r : StructId) (l : Layout) → r.number ≢ s.number → IsLaid k r l → IsLaid (record { table = closed k.table s (members_from members); structs = k.structs }) r l
  laid_kept r l other h = record {
    members = h.members;
    measures = h.measures;
    closed = body_kept r other ∙ h.closed;
    measured = measures_kept h.members h.measures h.measured;
    fields = fields_kept h.members (offsets h.measures) l.fields h.fields;
    whole = h.whole;
  }

  new_laid : (node : ℕ) (layouts : List Layout) (fields : List Field) → AreLaid k layouts → AreMembers k members fields
      → IsLaid (record { table = closed k.table s (members_from members); structs = k.structs }) s (layout layouts node fields)
  new_laid node layouts fields ok are =
      let ms = measures_of layouts fields in
      let measured = all_measured k layouts ok members fields are sized in
      record {
        members = members_from members;
        measures = ms;
        closed = at_set k.table.structs s.number (Some (members_from members)) None unclosed;
        measured = measures_kept (members_from members) ms measured;
        fields = fields_kept (members_from members) (offsets ms) (laid fields (offsets ms))
            (fields_laid k layouts ok members fields (offsets ms) (length-offsets_from 0 ms ∙ length-map fields) are);
        whole = refl;
      }
    where
      length-map : (fs : List Field) → length (map (λ (f : Field). unwrap_or (measure layouts f.type) no_measure) fs) ≡ length fs
      length-map [] = refl
      length-map (f ∷ fs) = ap suc (length-map fs)

  -- it had no layout before
  none_before : (node : ℕ) (layouts : List Layout) → struct_by k.structs node ≡ Some s → AreLaid k layouts → layout_of layouts node ≡ None
  none_before node layouts e ok = by (layout_of layouts node) refl (subst (λ o. LaidAs k o (layout_of layouts node)) e (ok node))
    where
      by : (l : Option Layout) → layout_of layouts node ≡ l → LaidAs k (Some s) l → layout_of layouts node ≡ None
      by None q h = q
      by (Some l) q h = let closed = h.closed in absurd (cc (sym closed ∙ unclosed))

  pub all_laid : (node : ℕ) (layouts : List Layout) (fields : List Field) → struct_by k.structs node ≡ Some s → AreLaid k layouts → AreMembers k members fields
      → AreLaid (record { table = closed k.table s (members_from members); structs = k.structs }) (layouts ++ layout layouts node fields ∷ [])
  all_laid node layouts fields e ok are = λ other. by other (eqb_tells node other)
    where
      l : Layout
      l = layout layouts node fields

      found : (other : ℕ) → node ≡ other → layout_of (layouts ++ l ∷ []) other ≡ Some l
      found other same =
          find-append layouts l other (ap (layout_of layouts) (sym same) ∙ none_before node layouts e ok) ∙ ap (λ b. if b then Some l else None) (eq-eqb node other same)

      elsewhere : (other : ℕ) → (node == other) ≡ false → (o : Option Layout) → layout_of layouts other ≡ o → layout_of (layouts ++ l ∷ []) other ≡ o
      elsewhere other not None q = find-append layouts l other q ∙ ap (λ b. if b then Some l else None) not
      elsewhere other not (Some x) q = find-before layouts l x other q

      apart : (other : ℕ) (r : StructId) → node ≢ other → struct_by k.structs other ≡ Some r → r.number ≢ s.number
      apart other r h q same = h (d.nodes node other s e (q ∙ ap Some (number_is r s same)))
        where
          number_is : (a b : StructId) → a.number ≡ b.number → a ≡ b
          number_is a b z = ap (λ n. record { number = n }) z

      kept : (other : ℕ) → node ≢ other → (r : Option StructId) → struct_by k.structs other ≡ r → (o : Option Layout) → LaidAs k r o
          → LaidAs (record { table = closed k.table s (members_from members); structs = k.structs }) r o
      kept other h None q None z = tt
      kept other h None q (Some x) z = absurd z
      kept other h (Some r) q None z = body_kept r (apart other r h q) ∙ z
      kept other h (Some r) q (Some x) z = laid_kept r x (apart other r h q) z

      by : (other : ℕ) → ((nat_eq node other ≡ true) × (node ≡ other)) ⊎ ((nat_eq node other ≡ false) × (node ≢ other))
          → LaidAs (record { table = closed k.table s (members_from members); structs = k.structs }) (struct_by k.structs other) (layout_of (layouts ++ l ∷ []) other)
      by other (inl (a, same)) =
          subst (λ o. LaidAs (record { table = closed k.table s (members_from members); structs = k.structs }) o (layout_of (layouts ++ l ∷ []) other)) (sym (ap (struct_by k.structs) (sym same) ∙ e))
          (subst (λ o. LaidAs (record { table = closed k.table s (members_from members); structs = k.structs }) (Some s) o) (sym (found other same)) (new_laid node layouts fields ok are))
      by other (inr (a, h)) =
          subst (λ o. LaidAs (record { table = closed k.table s (members_from members); structs = k.structs }) (struct_by k.structs other) o) (sym (elsewhere other a (layout_of layouts other) refl))
          (kept other h (struct_by k.structs other) refl (layout_of layouts other) (ok other))

  pub closed_by : StructFits k.table (members_from members) → IsClosedBy k (record { table = closed k.table s (members_from members); structs = k.structs }) s members
  closed_by fits = record {
    keeps = record { types = λ id t h. h; structs = λ node r h. h; there = λ id h. h; sized = λ id h. (h.0, sizes.types id h.0 h.1); long = refl };
    laid = all_laid;
    fits = λ node layouts fields ok are. fits (measures_of layouts fields) (all_measured k layouts ok members fields are sized);
  }

pub too_big_by : (k : Known) (s : StructId) (members : List (List ℕ × TypeId)) → AllByRecursion (λ m. IsSized k.table m.1) members → (size : ℕ) → StructIsTooBig k.table (members_from members) size → IsTooBigBy k s members size
too_big_by k s members sized size (ms, measured, big, told) = λ node layouts fields ok are.
    let same = one_each measured (measures_of layouts fields) (all_measured k layouts ok members fields are sized) in
    (subst (λ xs. MAX_SIZE < (struct_measure xs).size) same big, subst (λ xs. size ≡ min (struct_measure xs).size (2 ^ 64 - 1)) same told)

pub distinct_closed : (k : Known) (s : StructId) (members : List Member) → AreDistinct k → AreDistinct (record { table = closed k.table s members; structs = k.structs })
distinct_closed k s members d = record {
  kinds = d.kinds;
  nodes = d.nodes;
  there = λ node r h. subst (λ n. r.number < n) (sym (length-set k.table.structs s.number (Some members))) (d.there node r h);
}

-- whether it was closed or not
module _ (k : Known) (d : AreDistinct k) (new : Table) (s : StructId) (members : List (List ℕ × TypeId)) (r : Result (Unit {0}) TypeFault)
    (ok : OnOk r (new ≡ closed k.table s (members_from members))) (err : OnErr r (new ≡ k.table)) where
  pub distinct_after : AreDistinct (record { table = new; structs = k.structs })
  distinct_after = by r ok err
    where
      by : (r : Result (Unit {0}) TypeFault) → OnOk r (new ≡ closed k.table s (members_from members)) → OnErr r (new ≡ k.table) → AreDistinct (record { table = new; structs = k.structs })
      by (Ok u) a b = subst (λ t. AreDistinct (record { table = t; structs = k.structs })) (sym a) (distinct_closed k s (members_from members) d)
      by (Err fault) a b = subst (λ t. AreDistinct (record { table = t; structs = k.structs })) (sym b) d

  pub closed_after : IsOpen k.table s → AllByRecursion (λ m. IsSized k.table m.1) members → OnOk r (KeepsSizes k.table new) → OnOk r (StructFits k.table (members_from members))
      → OnOk r (IsClosedBy k (record { table = new; structs = k.structs }) s members)
  closed_after unclosed sized sizes fits = by r ok sizes fits
    where
      by : (r : Result (Unit {0}) TypeFault) → OnOk r (new ≡ closed k.table s (members_from members)) → OnOk r (KeepsSizes k.table new) → OnOk r (StructFits k.table (members_from members))
          → OnOk r (IsClosedBy k (record { table = new; structs = k.structs }) s members)
      by (Ok u) a b c =
          subst (λ t. IsClosedBy k (record { table = t; structs = k.structs }) s members) (sym a)
          (closed_by k d s members unclosed sized (subst (KeepsSizes k.table) a b) c)
      by (Err fault) a b c = tt
