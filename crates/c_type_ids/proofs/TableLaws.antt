-- How a table of types grows.
use Rattle.std.proofs.Common.{◌≡◌, ◌≢◌, ◌⊎◌, inl, inr, true, false, ℕ, zero, suc, ◌+◌, ◌<◌, List, [], ◌∷◌, ◌++◌, length, get_or, refl, sym, ap, ◌∙◌, subst, arith, Option, Some, None, length-append}
use Rattle.std.specs.Prelude.{slice_get, slice_set, nat_eq, Result, Ok, Err, IfOk, IfSome, OnErr}
use Rattle.c_types.specs.declared.types.TypeFault.{TypeFault}
use Rattle.std.proofs.lemmas.List.{get_or-set_same, get_or-set_other, length-set}
use Rattle.std.proofs.lemmas.Bool.Decides.{eqb_tells}
use Rattle.c_types.specs.declared.kind.TypeId.{TypeId}
use Rattle.c_types.specs.declared.kind.StructId.{StructId}
use Rattle.c_types.specs.declared.kind.TypeKind.{TypeKind}
use Rattle.c_types.specs.declared.kind.Measure.{Measure}
use Rattle.c_types.specs.InOrder.{offsets}
use Rattle.c_types.specs.Sizes.{Table, Member, Has, IsOpen, IsClosed, MeasuresAll, no_members, a_member}
use Rattle.c_types.specs.Tables.{IsStruct, IsAdded, IsOpened, KeepsSizes}
use Rattle.c_types.proofs.KeptLaws.{at_front, added_keeps}
use Rattle.c_typing.specs.Types.{CType, Field, Layout, layout_of}
use Rattle.c_type_ids.specs.Ids.{Known, Names, Keeps, Grows, AreDistinct, AreFields, IsLaid, LaidAs, AreLaid, struct_by}
use Rattle.c_type_ids.proofs.IdLaws.{names_grow}

abbrev pub known : Table → List (Option StructId) → Known
known table structs = record { table = table; structs = structs }

-- ---- a struct that is laid out stays so

-- what the types and sizes of a table need of a later one
record Preserves (old new : Known) : Type 0 where
  types : (id : TypeId) (t : TypeKind) → Has old.table id t → Has new.table id t
  structs : (node : ℕ) (s : StructId) → struct_by old.structs node ≡ Some s → struct_by new.structs node ≡ Some s
  sizes : KeepsSizes old.table new.table
  closed : (s : StructId) (members : List Member) → IsClosed old.table s members → IsClosed new.table s members
  unclosed : (s : StructId) → IsOpen old.table s → IsOpen new.table s

module _ (old new : Known) (k : Preserves old new) where
  names_kept : (id : TypeId) (t : CType) → Names old id t → Names new id t
  names_kept = names_grow old new (k.types) (k.structs)

  measures_kept : (members : List Member) (ms : List Measure) → MeasuresAll old.table members ms → MeasuresAll new.table members ms
  measures_kept members ms no_members = no_members
  measures_kept members ms (a_member member kind m more rest h i j) = a_member member kind m more rest (k.types member.type kind h) (k.sizes.kinds kind m i) (measures_kept more rest j)

  fields_kept : (members : List Member) (os : List ℕ) (fields : List Field) → AreFields old members os fields → AreFields new members os fields
  fields_kept [] [] [] h = tt
  fields_kept [] [] (f ∷ fs) h = absurd h
  fields_kept [] (o ∷ os) fs h = absurd h
  fields_kept (m ∷ ms) [] fs h = absurd h
  fields_kept (m ∷ ms) (o ∷ os) [] h = absurd h
  fields_kept (m ∷ ms) (o ∷ os) (f ∷ fs) (a, b, c, d) = (a, b, names_kept m.type f.type c, fields_kept ms os fs d)

  laid_kept : (s : StructId) (l : Layout) → IsLaid old s l → IsLaid new s l
  laid_kept s l h = record {
    members = h.members;
    measures = h.measures;
    closed = k.closed s h.members h.closed;
    measured = measures_kept h.members h.measures h.measured;
    fields = fields_kept h.members (offsets h.measures) l.fields h.fields;
    whole = h.whole;
  }

-- a node whose struct was not named names none that is closed
abbrev IsFresh : Known → Known → Type 0
IsFresh old new = (node : ℕ) → struct_by old.structs node ≡ None → LaidAs new (struct_by new.structs node) None

all_laid : (old new : Known) → Preserves old new → IsFresh old new → (layouts : List Layout) → AreLaid old layouts → AreLaid new layouts
all_laid old new k fresh layouts h = λ node. by node (struct_by old.structs node) refl (layout_of layouts node) (h node)
  where
    by : (node : ℕ) (s : Option StructId) → struct_by old.structs node ≡ s → (l : Option Layout) → LaidAs old s l → LaidAs new (struct_by new.structs node) l
    by node None e None at = fresh node e
    by node None e (Some l) at = absurd at
    by node (Some s) e None at = subst (λ o. LaidAs new o None) (sym (k.structs node s e)) (k.unclosed s at)
    by node (Some s) e (Some l) at = subst (λ o. LaidAs new o (Some l)) (sym (k.structs node s e)) (laid_kept old new k s l at)

grows : (old new : Known) → Preserves old new → IsFresh old new → length new.structs ≡ length old.structs → Grows old new
grows old new k fresh long = record {
  keeps = record { types = k.types; structs = k.structs; there = k.sizes.there; sized = λ id h. (h.0, k.sizes.types id h.0 h.1); long = long };
  laid = all_laid old new k fresh;
}

pub grows_same : (old new : Known) → new ≡ old → Grows old new
grows_same old new e = subst (Grows old) (sym e) (record { keeps = record { types = λ id t h. h; structs = λ node s h. h; there = λ id h. h; sized = λ id h. h; long = refl }; laid = λ layouts h. h })

pub keeps_on : (a b c : Known) → Keeps a b → Keeps b c → Keeps a c
keeps_on a b c g h = record {
  types = λ id t x. h.types id t (g.types id t x);
  structs = λ node s x. h.structs node s (g.structs node s x);
  there = λ id x. h.there id (g.there id x);
  sized = λ id x. h.sized id (g.sized id x);
  long = h.long ∙ g.long;
}

pub grows_on : (a b c : Known) → Grows a b → Grows b c → Grows a c
grows_on a b c g h = record { keeps = keeps_on a b c g.keeps h.keeps; laid = λ layouts x. h.laid layouts (g.laid layouts x) }

-- ---- a type is added

module _ (old new : Table) (t : TypeKind) (id : TypeId) (structs : List (Option StructId)) (a : IsAdded old t id new) where
  bodies_same : new.structs ≡ old.structs
  bodies_same = by a.rest
    where
      by : (new ≡ old) ⊎ (new ≡ record old { kinds = old.kinds ++ t ∷ [] }) → new.structs ≡ old.structs
      by (inl e) = ap (λ (x : Table). x.structs) e
      by (inr e) = ap (λ (x : Table). x.structs) e

  types_added : (b : TypeId) (u : TypeKind) → Has old b u → Has new b u
  types_added b u h = by a.rest
    where
      by : (new ≡ old) ⊎ (new ≡ record old { kinds = old.kinds ++ t ∷ [] }) → Has new b u
      by (inl e) = subst (λ x. Has x b u) (sym e) h
      by (inr e) = subst (λ x. Has x b u) (sym e) (at_front old.kinds (t ∷ []) b.number u h)

  pub added_grows : Grows (known old structs) (known new structs)
  added_grows = grows (known old structs) (known new structs)
      (record {
        types = types_added;
        structs = λ node s h. h;
        sizes = added_keeps old new t id a;
        closed = λ s members h. ap (λ bodies. slice_get bodies s.number) bodies_same ∙ h;
        unclosed = λ s h. ap (λ bodies. slice_get bodies s.number) bodies_same ∙ h;
      })
      (λ node e. subst (λ o. LaidAs (known new structs) o None) (sym e) tt) refl

  -- the type is the one that was added, or was there
  was_there : (b : TypeId) (u : TypeKind) → Has new b u → Has old b u ⊎ (u ≡ t)
  was_there b u h = by a.rest
    where
      last : (kinds : List TypeKind) (i : ℕ) → slice_get (kinds ++ t ∷ []) i ≡ Some u → (slice_get kinds i ≡ Some u) ⊎ (u ≡ t)
      last [] zero e = let same : t ≡ u = cc e in inr (sym same)
      last [] (suc i) e = absurd (cc e)
      last (x ∷ kinds) zero e = inl e
      last (x ∷ kinds) (suc i) e = last kinds i e

      by : (new ≡ old) ⊎ (new ≡ record old { kinds = old.kinds ++ t ∷ [] }) → Has old b u ⊎ (u ≡ t)
      by (inl e) = inl (subst (λ x. Has x b u) e h)
      by (inr e) = last old.kinds b.number (subst (λ x. Has x b u) e h)

  pub added_distinct : AreDistinct (known old structs) → AreDistinct (known new structs)
  added_distinct d = record {
    kinds = λ b c u h i. by b c u h i (was_there b u h) (was_there c u i);
    nodes = d.nodes;
    there = λ node s h. subst (λ bodies. s.number < length bodies) (sym bodies_same) (d.there node s h);
  }
    where
      by : (b c : TypeId) (u : TypeKind) → Has new b u → Has new c u → Has old b u ⊎ (u ≡ t) → Has old c u ⊎ (u ≡ t) → b ≡ c
      by b c u h i (inl x) (inl y) = d.kinds b c u x y
      by b c u h i (inr e) y = a.one b (subst (Has new b) e h) ∙ sym (a.one c (subst (Has new c) e i))
      by b c u h i (inl x) (inr e) = a.one b (subst (Has new b) e h) ∙ sym (a.one c (subst (Has new c) e i))

-- ---- a struct is opened

module _ (old new : Table) (structs : List (Option StructId)) (s : StructId) (node : ℕ) (o : IsOpened old s new) (none : struct_by structs node ≡ None) (within : node < length structs) where
  abbrev later : List (Option StructId)
  later = slice_set structs node (Some s)

  here : struct_by (slice_set structs node (Some s)) node ≡ Some s
  here = get_or-set_same structs node (Some s) None within

  elsewhere : (other : ℕ) → other ≢ node → struct_by (slice_set structs node (Some s)) other ≡ struct_by structs other
  elsewhere other h = get_or-set_other structs node other (Some s) None h

  kinds_same : new.kinds ≡ old.kinds
  kinds_same = ap (λ (x : Table). x.kinds) o.rest

  bodies_are : new.structs ≡ old.structs ++ None ∷ []
  bodies_are = ap (λ (x : Table). x.structs) o.rest

  pub opened_grows : KeepsSizes old new → Grows (known old structs) (known new (slice_set structs node (Some s)))
  opened_grows sizes = grows (known old structs) (known new (slice_set structs node (Some s)))
      (record {
        types = λ id t h. ap (λ kinds. slice_get kinds id.number) kinds_same ∙ h;
        structs = λ other r h. elsewhere other (λ e. absurd (cc (sym none ∙ (ap (struct_by structs) (sym e) ∙ h)))) ∙ h;
        sizes = sizes;
        closed = λ r members h. ap (λ bodies. slice_get bodies r.number) bodies_are ∙ at_front old.structs (None ∷ []) r.number (Some members) h;
        unclosed = λ r h. ap (λ bodies. slice_get bodies r.number) bodies_are ∙ at_front old.structs (None ∷ []) r.number None h;
      })
      (λ other e. by other e (eqb_tells other node)) (length-set structs node (Some s))
    where
      by : (other : ℕ) → struct_by structs other ≡ None → ((nat_eq other node ≡ true) × (other ≡ node)) ⊎ ((nat_eq other node ≡ false) × (other ≢ node))
          → LaidAs (known new (slice_set structs node (Some s))) (struct_by (slice_set structs node (Some s)) other) None
      by other e (inl (a, same)) =
          subst (λ k. LaidAs (known new (slice_set structs node (Some s))) k None) (sym (ap (struct_by (slice_set structs node (Some s))) same ∙ here)) o.unclosed
      by other e (inr (a, h)) = subst (λ k. LaidAs (known new (slice_set structs node (Some s))) k None) (sym (elsewhere other h ∙ e)) tt

  pub opened_there : (struct_by (slice_set structs node (Some s)) node ≡ Some s) × IsStruct new s
  opened_there =
      let longer : length new.structs ≡ length old.structs + 1 = ap length bodies_are ∙ length-append old.structs (None ∷ []) in
      let place = o.place in
      (here, omega (arith, longer, place))

  pub opened_distinct : AreDistinct (known old structs) → AreDistinct (known new (slice_set structs node (Some s)))
  opened_distinct d = record {
    kinds = λ a b t h i. d.kinds a b t (ap (λ kinds. slice_get kinds a.number) (sym kinds_same) ∙ h) (ap (λ kinds. slice_get kinds b.number) (sym kinds_same) ∙ i);
    nodes = λ a b r h i. by a b r h i (eqb_tells a node) (eqb_tells b node);
    there = λ a r h. found a r h (eqb_tells a node);
  }
    where
      longer : length new.structs ≡ length old.structs + 1
      longer = ap length bodies_are ∙ length-append old.structs (None ∷ [])

      mine : (r : StructId) → struct_by (slice_set structs node (Some s)) node ≡ Some r → r ≡ s
      mine r h = let same : r ≡ s = cc (sym h ∙ here) in same

      not_mine : (a : ℕ) (r : StructId) → a ≢ node → struct_by (slice_set structs node (Some s)) a ≡ Some r → r ≡ s → ⊥
      not_mine a r other h e =
          let old_one = d.there a r (sym (elsewhere a other) ∙ h) in
          let same : r.number ≡ length old.structs = ap (λ (x : StructId). x.number) e ∙ o.place in
          omega (arith, old_one, same)

      by : (a b : ℕ) (r : StructId) → struct_by (slice_set structs node (Some s)) a ≡ Some r → struct_by (slice_set structs node (Some s)) b ≡ Some r
          → ((nat_eq a node ≡ true) × (a ≡ node)) ⊎ ((nat_eq a node ≡ false) × (a ≢ node)) → ((nat_eq b node ≡ true) × (b ≡ node)) ⊎ ((nat_eq b node ≡ false) × (b ≢ node)) → a ≡ b
      by a b r h i (inl (x, p)) (inl (y, q)) = p ∙ sym q
      by a b r h i (inl (x, p)) (inr (y, q)) = absurd (not_mine b r q i (mine r (subst (λ k. struct_by (slice_set structs node (Some s)) k ≡ Some r) p h)))
      by a b r h i (inr (x, p)) (inl (y, q)) = absurd (not_mine a r p h (mine r (subst (λ k. struct_by (slice_set structs node (Some s)) k ≡ Some r) q i)))
      by a b r h i (inr (x, p)) (inr (y, q)) = d.nodes a b r (sym (elsewhere a p) ∙ h) (sym (elsewhere b q) ∙ i)

      found : (a : ℕ) (r : StructId) → struct_by (slice_set structs node (Some s)) a ≡ Some r → ((nat_eq a node ≡ true) × (a ≡ node)) ⊎ ((nat_eq a node ≡ false) × (a ≢ node)) → r.number < length new.structs
      found a r h (inl (x, p)) =
          let same : r.number ≡ length old.structs = ap (λ (k : StructId). k.number) (mine r (subst (λ k. struct_by (slice_set structs node (Some s)) k ≡ Some r) p h)) ∙ o.place in
          let more = longer in
          omega (arith, same, more)
      found a r h (inr (x, p)) = let old_one = d.there a r (sym (elsewhere a p) ∙ h) in let more = longer in omega (arith, old_one, more)

-- whether a type was added or not
module _ (old new : Table) (t : TypeKind) (structs : List (Option StructId)) (r : Result TypeId TypeFault) (ok : IfOk r (λ id. IsAdded old t id new)) (err : OnErr r (new ≡ old)) where
  pub distinct_by : AreDistinct (known old structs) → AreDistinct (known new structs)
  distinct_by d = by r ok err
    where
      by : (r : Result TypeId TypeFault) → IfOk r (λ id. IsAdded old t id new) → OnErr r (new ≡ old) → AreDistinct (known new structs)
      by (Ok id) a b = added_distinct old new t id structs a d
      by (Err fault) a b = subst (λ x. AreDistinct (known x structs)) (sym b) d

  pub grown_by : Grows (known old structs) (known new structs)
  grown_by = by r ok err
    where
      by : (r : Result TypeId TypeFault) → IfOk r (λ id. IsAdded old t id new) → OnErr r (new ≡ old) → Grows (known old structs) (known new structs)
      by (Ok id) a b = added_grows old new t id structs a
      by (Err fault) a b = grows_same (known old structs) (known new structs) (ap (λ x. known x structs) b)

-- ---- a struct is read

pub any_default : (structs : List (Option StructId)) (node : ℕ) (d e : Option StructId) → node < length structs → get_or structs node d ≡ get_or structs node e
any_default [] node d e within = absurd (omega (arith, within))
any_default (s ∷ structs) zero d e within = refl
any_default (s ∷ structs) (suc node) d e within = any_default structs node d e (omega (arith, within))

pub read_there : (k : Known) (node : ℕ) (s : Option StructId) → AreDistinct k → s ≡ struct_by k.structs node → IfSome s (IsStruct k.table)
read_there k node None d e = tt
read_there k node (Some s) d e = d.there node s (sym e)
