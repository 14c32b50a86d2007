-- What a table keeps, and what stays when it grows.
use Rattle.std.proofs.Common.{◌≡◌, ◌≢◌, ℕ, zero, suc, ◌+◌, ◌≤◌, Bool, true, false, List, [], ◌∷◌, ◌++◌, length, map, Option, Some, None, if◌then◌else◌, refl, sym, ap, ap₂, subst, ◌∙◌, arith, inl, inr, ◌⊎◌, length-append, length-set}
use Rattle.std.proofs.lemmas.List.{length-map, map-set}
use Rattle.std.proofs.lemmas.Option.{slice_get-map, slice_get_within}
use Rattle.std.specs.Prelude.{slice_get, slice_set, not}
use Rattle.std.specs.List.{AllByRecursion, IsDistinct, position_or_len}
use Rattle.std.specs.Option.{option_map}
use Rattle.indexmap.specs.IndexMap.{insert_entry}
use Rattle.c_types.specs.declared.kind.TypeId.{TypeId}
use Rattle.c_types.specs.declared.kind.StructId.{StructId}
use Rattle.c_types.specs.declared.kind.TypeKind.{TypeKind}
use Rattle.c_types.specs.declared.kind.TypeKind.TheVariants.{Pointer, Array, Struct, Function}
use Rattle.c_types.specs.declared.kind.Measure.{Measure}
use Rattle.c_types.specs.declared.types.Body.{Body}
use Rattle.c_types.specs.Sizes.{Table, Member, Has, IsClosed, IsOpen, IsSized, Measures, basic, array, struct, MeasuresAll, no_members, a_member}
use Rattle.c_types.specs.Tables.{IsAdded, IsOpened, IsThere, KeepsSizes, PartsAreThere, closed}
use Rattle.c_types.specs.Kept.{IsKept, IsKnown, IsLaid, members_of, table_of}

-- ---- a table that grows

pub record Grows (old new : Table) : Type 0 where
  pub kinds : (id : TypeId) (kind : TypeKind) → Has old id kind → Has new id kind
  pub bodies : (s : StructId) (members : List Member) → IsClosed old s members → IsClosed new s members
  pub more_kinds : length old.kinds ≤ length new.kinds
  pub more_structs : length old.structs ≤ length new.structs

module _ {old new : Table} (grows : Grows old new) where
  mutual
    pub measures_grow : {kind : TypeKind} {m : Measure} → Measures old kind m → Measures new kind m
    measures_grow (basic kind m e) = basic kind m e
    measures_grow (array element count kind m has own) = array element count kind m (grows.kinds element kind has) (measures_grow own)
    measures_grow (struct s members ms unopen all) = struct s members ms (grows.bodies s members unopen) (all_grow all)

    pub all_grow : {members : List Member} {ms : List Measure} → MeasuresAll old members ms → MeasuresAll new members ms
    all_grow no_members = no_members
    all_grow (a_member member kind m members ms has own all) = a_member member kind m members ms (grows.kinds member.type kind has) (measures_grow own) (all_grow all)

  sized_grows : (id : TypeId) → IsSized old id → IsSized new id
  sized_grows id h = (h.0, (h.1.0, grows.kinds id h.1.0 h.1.1, measures_grow h.1.2))

  there_grows : (id : TypeId) → IsThere old id → IsThere new id
  there_grows id h = let more = grows.more_kinds in omega (arith, h, more)

  all_there_grow : (ids : List TypeId) → AllByRecursion (IsThere old) ids → AllByRecursion (IsThere new) ids
  all_there_grow [] all = tt
  all_there_grow (id ∷ ids) all = (there_grows id all.0, all_there_grow ids all.1)

  pub parts_grow : (kind : TypeKind) → PartsAreThere old kind → PartsAreThere new kind
  parts_grow (Pointer to) h = there_grows to h
  parts_grow (Array element count) h = sized_grows element h
  parts_grow (Struct s) h = let more = grows.more_structs in omega (arith, h, more)
  parts_grow (Function gives takes) h = (there_grows gives h.0, all_there_grow takes h.1)
  parts_grow kind h = tt

  known_grows : (kind : TypeKind) (known : Option Measure) → IsKnown old kind known → IsKnown new kind known
  known_grows kind None h = h
  known_grows kind (Some m) h = (measures_grow h.0, h.1)

  laid_grows : (body : Option Body) → IsLaid old body → IsLaid new body
  laid_grows None h = tt
  laid_grows (Some body) h = (h.0, all_grow h.1, h.2, h.3, h.4)

pub all_map : {A : Type 0} (P Q : A → Type 0) → ((x : A) → P x → Q x) → (xs : List A) → AllByRecursion P xs → AllByRecursion Q xs
all_map P Q f [] all = tt
all_map P Q f (x ∷ xs) all = (f x all.0, all_map P Q f xs all.1)

-- ---- lists by their places

pub at_front : {A : Type 0} (xs ys : List A) (i : ℕ) (x : A) → slice_get xs i ≡ Some x → slice_get (xs ++ ys) i ≡ Some x
at_front [] ys i x e = cc
at_front (z ∷ xs) ys zero x e = e
at_front (z ∷ xs) ys (suc i) x e = at_front xs ys i x e

pub all_got : {A : Type 0} (P : A → Type 0) (xs : List A) (i : ℕ) (x : A) → slice_get xs i ≡ Some x → AllByRecursion P xs → P x
all_got P [] i x e all = absurd (none_some e)
  where
    none_some : None ≡ Some x → ⊥
    none_some e = cc
all_got P (z ∷ xs) zero x e all = let same : z ≡ x = cc in subst P same all.0
all_got P (z ∷ xs) (suc i) x e all = all_got P xs i x e all.1

all_set : {A : Type 0} (P : A → Type 0) (xs : List A) (i : ℕ) (x : A) → P x → AllByRecursion P xs → AllByRecursion P (slice_set xs i x)
all_set P [] i x own all = tt
all_set P (z ∷ xs) zero x own all = (own, all.1)
all_set P (z ∷ xs) (suc i) x own all = (all.0, all_set P xs i x own all.1)

all_pushed : {A : Type 0} (P : A → Type 0) (xs : List A) (x : A) → P x → AllByRecursion P xs → AllByRecursion P (xs ++ x ∷ [])
all_pushed P [] x own all = (own, tt)
all_pushed P (z ∷ xs) x own all = (all.0, all_pushed P xs x own all.1)

got_other : {A : Type 0} (xs : List A) (i j : ℕ) (x : A) → j ≢ i → slice_get (slice_set xs i x) j ≡ slice_get xs j
got_other [] i j x other = refl
got_other (z ∷ xs) zero zero x other = absurd (other refl)
got_other (z ∷ xs) zero (suc j) x other = refl
got_other (z ∷ xs) (suc i) zero x other = refl
got_other (z ∷ xs) (suc i) (suc j) x other = got_other xs i j x (λ e. other (ap suc e))

-- ---- what is kept when the table grows

module _ (kinds kinds2 : List (TypeKind × Option Measure)) (structs structs2 : List (Option Body)) (grows : Grows (table_of kinds structs) (table_of kinds2 structs2)) where
  parts_kept : AllByRecursion (λ k. PartsAreThere (table_of kinds structs) k.0) kinds → AllByRecursion (λ k. PartsAreThere (table_of kinds2 structs2) k.0) kinds
  parts_kept = all_map (λ (k : TypeKind × Option Measure). PartsAreThere (table_of kinds structs) k.0) (λ k. PartsAreThere (table_of kinds2 structs2) k.0) (λ k. parts_grow grows k.0) kinds

  known_kept : AllByRecursion (λ k. IsKnown (table_of kinds structs) k.0 k.1) kinds → AllByRecursion (λ k. IsKnown (table_of kinds2 structs2) k.0 k.1) kinds
  known_kept = all_map (λ (k : TypeKind × Option Measure). IsKnown (table_of kinds structs) k.0 k.1) (λ k. IsKnown (table_of kinds2 structs2) k.0 k.1) (λ k. known_grows grows k.0 k.1) kinds

  laid_kept : AllByRecursion (IsLaid (table_of kinds structs)) structs → AllByRecursion (IsLaid (table_of kinds2 structs2)) structs
  laid_kept = all_map (IsLaid (table_of kinds structs)) (IsLaid (table_of kinds2 structs2)) (laid_grows grows) structs

-- ---- a struct is opened

map-pushed : {A B : Type 0} (f : A → B) (xs : List A) (x : A) → map f (xs ++ x ∷ []) ≡ map f xs ++ f x ∷ []
map-pushed f [] x = refl
map-pushed f (z ∷ xs) x = ap (λ ys. f z ∷ ys) (map-pushed f xs x)

opened_grows : (t : Table) → Grows t (record t { structs = t.structs ++ None ∷ [] })
opened_grows t = record {
  kinds = λ id kind has. has;
  bodies = λ s members unopen. at_front t.structs (None ∷ []) s.number (Some members) unopen;
  more_kinds = omega arith;
  more_structs = let long = length-append t.structs (None ∷ []) in omega (arith, long);
}

view_opened : (kinds : List (TypeKind × Option Measure)) (structs : List (Option Body))
    → table_of kinds (structs ++ None ∷ []) ≡ record (table_of kinds structs) { structs = map (option_map members_of) structs ++ None ∷ [] }
view_opened kinds structs = ap (λ ss. record { kinds = map (λ (k : TypeKind × Option Measure). k.0) kinds; structs = ss }) (map-pushed (option_map members_of) structs None)

pub opened_kept : (kinds : List (TypeKind × Option Measure)) (structs : List (Option Body)) → IsKept kinds structs → IsKept kinds (structs ++ None ∷ [])
opened_kept kinds structs kept =
    let grows = subst (Grows (table_of kinds structs)) (sym (view_opened kinds structs)) (opened_grows (table_of kinds structs)) in
    record {
      parts = parts_kept kinds kinds structs (structs ++ None ∷ []) grows kept.parts;
      known = known_kept kinds kinds structs (structs ++ None ∷ []) grows kept.known;
      laid = all_pushed (IsLaid (table_of kinds (structs ++ None ∷ []))) structs None tt (laid_kept kinds kinds structs (structs ++ None ∷ []) grows kept.laid);
    }

-- ---- a struct is closed

closed_grows : (t : Table) (s : StructId) (members : List Member) → IsOpen t s → Grows t (closed t s members)
closed_grows t s members unclosed = record {
  kinds = λ id kind has. has;
  bodies = λ other ms unopen. got_other t.structs s.number other.number (Some members) (λ same. open_closed same unopen) ∙ unopen;
  more_kinds = omega arith;
  more_structs = let long = length-set t.structs s.number (Some members) in omega (arith, long);
}
  where
    open_closed : {n : ℕ} {ms : List Member} → n ≡ s.number → slice_get t.structs n ≡ Some (Some ms) → ⊥
    open_closed {n} {ms} same unopen = let here = subst (λ k. slice_get t.structs k ≡ Some (Some ms)) same unopen in let none = unclosed in cc

pub closed_kept : (kinds : List (TypeKind × Option Measure)) (structs : List (Option Body)) (s : StructId) (body : Body) → IsKept kinds structs
    → IsOpen (table_of kinds structs) s → IsLaid (table_of kinds structs) (Some body) → IsKept kinds (slice_set structs s.number (Some body))
closed_kept kinds structs s body kept unclosed own =
    let all = slice_set structs s.number (Some body) in
    let now : table_of kinds all ≡ closed (table_of kinds structs) s (members_of body) =
    ap (λ ss. record { kinds = map (λ (k : TypeKind × Option Measure). k.0) kinds; structs = ss }) (map-set (option_map members_of) structs s.number (Some body)) in
    let grows = subst (Grows (table_of kinds structs)) (sym now) (closed_grows (table_of kinds structs) s (members_of body) unclosed) in
    record {
      parts = parts_kept kinds kinds structs all grows kept.parts;
      known = known_kept kinds kinds structs all grows kept.known;
      laid = all_set (IsLaid (table_of kinds all)) structs s.number (Some body) (laid_grows grows (Some body) own) (laid_kept kinds kinds structs all grows kept.laid);
    }

-- ---- a type is added

rest_grows : (old new : Table) (kind : TypeKind) → (new ≡ old) ⊎ (new ≡ record old { kinds = old.kinds ++ kind ∷ [] }) → Grows old new
rest_grows old new kind (inl e) = subst (Grows old) (sym e) (record { kinds = λ id k has. has; bodies = λ s ms unopen. unopen; more_kinds = omega arith; more_structs = omega arith })
rest_grows old new kind (inr e) = subst (Grows old) (sym e) (record {
  kinds = λ id k has. at_front old.kinds (kind ∷ []) id.number k has;
  bodies = λ s ms unopen. unopen;
  more_kinds = let long = length-append old.kinds (kind ∷ []) in omega (arith, long);
  more_structs = omega arith;
})

abbrev kinds_of : List (TypeKind × Option Measure) → List TypeKind
kinds_of kinds = map (λ k. k.0) kinds

module _ (eq : TypeKind → TypeKind → Bool) (same : (a b : TypeKind) → eq a b ≡ true → a ≡ b) (kind : TypeKind) (known : Option Measure) where
  all_inserted : (P : TypeKind × Option Measure → Type 0) (kinds : List (TypeKind × Option Measure)) → P (kind, known) → AllByRecursion P kinds
      → AllByRecursion P (insert_entry eq kinds kind known)
  all_inserted P [] own all = (own, tt)
  all_inserted P (e ∷ es) own all = by (eq kind e.0) refl (all_inserted P es own all.1)
    where
      by : (b : Bool) → eq kind e.0 ≡ b → AllByRecursion P (insert_entry eq es kind known) → AllByRecursion P (if b then (e.0, known) ∷ es else e ∷ insert_entry eq es kind known)
      by true is rest = (subst (λ k. P (k, known)) (same kind e.0 is) own, all.1)
      by false is rest = (all.0, rest)

  -- the kinds are as before, or there is one more
  keys_inserted : (kinds : List (TypeKind × Option Measure)) → (kinds_of (insert_entry eq kinds kind known) ≡ kinds_of kinds) ⊎ (kinds_of (insert_entry eq kinds kind known) ≡ kinds_of kinds ++ kind ∷ [])
  keys_inserted [] = inr refl
  keys_inserted (e ∷ es) = by (eq kind e.0) (keys_inserted es)
    where
      by : (b : Bool) → (kinds_of (insert_entry eq es kind known) ≡ kinds_of es) ⊎ (kinds_of (insert_entry eq es kind known) ≡ kinds_of es ++ kind ∷ [])
          → (kinds_of (if b then (e.0, known) ∷ es else e ∷ insert_entry eq es kind known) ≡ e.0 ∷ kinds_of es) ⊎ (kinds_of (if b then (e.0, known) ∷ es else e ∷ insert_entry eq es kind known) ≡ e.0 ∷ (kinds_of es ++ kind ∷ []))
      by true rest = inl refl
      by false (inl rest) = inl (ap (λ ks. e.0 ∷ ks) rest)
      by false (inr rest) = inr (ap (λ ks. e.0 ∷ ks) rest)

  -- the kind is at its place
  found_inserted : (kinds : List (TypeKind × Option Measure)) → slice_get (kinds_of (insert_entry eq kinds kind known)) (position_or_len (eq kind) (kinds_of kinds)) ≡ Some kind
  found_inserted [] = refl
  found_inserted (e ∷ es) = by (eq kind e.0) refl (found_inserted es)
    where
      by : (b : Bool) → eq kind e.0 ≡ b → slice_get (kinds_of (insert_entry eq es kind known)) (position_or_len (eq kind) (kinds_of es)) ≡ Some kind
          → slice_get (kinds_of (if b then (e.0, known) ∷ es else e ∷ insert_entry eq es kind known)) (if not b then 1 + position_or_len (eq kind) (kinds_of es) else 0) ≡ Some kind
      by true is rest = ap Some (sym (same kind e.0 is))
      by false is rest = subst (λ i. slice_get (e.0 ∷ kinds_of (insert_entry eq es kind known)) i ≡ Some kind) {x = suc (position_or_len (eq kind) (kinds_of es))} (omega arith) rest

  module _ (own : eq kind kind ≡ true) where
    not_behind : (x : TypeKind) (ks : List TypeKind) (i : ℕ) → AllByRecursion (λ y. eq x y ≡ false) ks → slice_get ks i ≡ Some kind → x ≡ kind → ⊥
    not_behind x ks i all got is = let other : eq x kind ≡ false = all_got (λ y. eq x y ≡ false) ks i kind got all in let here = subst (λ k. eq k kind ≡ false) is other in cc

    one_place : (ks : List TypeKind) (i j : ℕ) → IsDistinct eq ks → slice_get ks i ≡ Some kind → slice_get ks j ≡ Some kind → i ≡ j
    unfolding IsDistinct
    one_place [] i j distinct a b = cc
    one_place (x ∷ xs) zero zero distinct a b = refl
    one_place (x ∷ xs) zero (suc j) distinct a b = absurd (not_behind x xs j distinct.0 b cc)
    one_place (x ∷ xs) (suc i) zero distinct a b = absurd (not_behind x xs i distinct.0 a cc)
    one_place (x ∷ xs) (suc i) (suc j) distinct a b = ap suc (one_place xs i j distinct.1 a b)

  module _ (kinds : List (TypeKind × Option Measure)) (structs : List (Option Body)) where
    abbrev after : List (TypeKind × Option Measure)
    after = insert_entry eq kinds kind known

    rest_added : (table_of after structs ≡ table_of kinds structs) ⊎ (table_of after structs ≡ record (table_of kinds structs) { kinds = (table_of kinds structs).kinds ++ kind ∷ [] })
    rest_added = by (keys_inserted kinds)
      where
        by : (kinds_of after ≡ kinds_of kinds) ⊎ (kinds_of after ≡ kinds_of kinds ++ kind ∷ [])
            → (table_of after structs ≡ table_of kinds structs) ⊎ (table_of after structs ≡ record (table_of kinds structs) { kinds = (table_of kinds structs).kinds ++ kind ∷ [] })
        by (inl e) = inl (ap (λ ks. record { kinds = ks; structs = map (option_map members_of) structs }) e)
        by (inr e) = inr (ap (λ ks. record { kinds = ks; structs = map (option_map members_of) structs }) e)

    added_grows : Grows (table_of kinds structs) (table_of after structs)
    added_grows = rest_grows (table_of kinds structs) (table_of after structs) kind rest_added

    pub added_kept : IsKept kinds structs → PartsAreThere (table_of kinds structs) kind → IsKnown (table_of kinds structs) kind known → IsKept after structs
    added_kept kept parts own = record {
      parts = all_inserted (λ k. PartsAreThere (table_of after structs) k.0) kinds (parts_grow added_grows kind parts) (parts_kept kinds after structs structs added_grows kept.parts);
      known = all_inserted (λ k. IsKnown (table_of after structs) k.0 k.1) kinds (known_grows added_grows kind known own) (known_kept kinds after structs structs added_grows kept.known);
      laid = laid_kept kinds after structs structs added_grows kept.laid;
    }

    pub is_added : (id : TypeId) → eq kind kind ≡ true → id.number ≡ position_or_len (eq kind) (kinds_of kinds) → IsDistinct eq (kinds_of after)
        → IsAdded (table_of kinds structs) kind id (table_of after structs)
    is_added id own place distinct =
        let found : Has (table_of after structs) id kind = rw place (found_inserted kinds) in
        record {
          there = slice_get_within (kinds_of after) id.number kind found;
          found = found;
          one = λ other has. ap (λ (n : ℕ). record { number = n }) (one_place own (kinds_of after) other.number id.number distinct has found);
          rest = rest_added;
        }

-- ---- what is read

pub key_got : (kinds : List (TypeKind × Option Measure)) (i : ℕ) (kind : TypeKind) → slice_get (kinds_of kinds) i ≡ Some kind → (known : Option Measure) × (slice_get kinds i ≡ Some (kind, known))
key_got [] i kind e = absurd (none_some e)
  where
    none_some : None ≡ Some kind → ⊥
    none_some e = cc
key_got (k ∷ ks) zero kind e = let same : k.0 ≡ kind = cc in (k.1, ap (λ x. Some (x, k.1)) same)
key_got (k ∷ ks) (suc i) kind e = key_got ks i kind e

pub parts_at : (kinds : List (TypeKind × Option Measure)) (structs : List (Option Body)) (id : TypeId) (kind : TypeKind) → IsKept kinds structs
    → Has (table_of kinds structs) id kind → PartsAreThere (table_of kinds structs) kind
parts_at kinds structs id kind kept has =
    let at = key_got kinds id.number kind has in
    all_got (λ (k : TypeKind × Option Measure). PartsAreThere (table_of kinds structs) k.0) kinds id.number (kind, at.0) at.1 kept.parts

-- ---- sizes stay

keeps : (old new : Table) → Grows old new → KeepsSizes old new
keeps old new grows = record {
  there = λ id h. there_grows grows id h;
  types = λ id m h. (h.0, grows.kinds id h.0 h.1, measures_grow grows h.2);
  kinds = λ kind m measured. measures_grow grows measured;
}

pub added_keeps : (old new : Table) (kind : TypeKind) (id : TypeId) → IsAdded old kind id new → KeepsSizes old new
added_keeps old new kind id added = keeps old new (rest_grows old new kind added.rest)

none_behind : {A : Type 0} (xs : List (Option A)) → slice_get (xs ++ None ∷ []) (length xs) ≡ Some None
none_behind [] = refl
none_behind (x ∷ xs) = none_behind xs

pub is_opened : (kinds : List (TypeKind × Option Measure)) (structs pushed : List (Option Body)) (n : ℕ) → pushed ≡ structs ++ None ∷ [] → n ≡ length structs
    → IsOpened (table_of kinds structs) (record { number = n }) (table_of kinds pushed)
is_opened kinds structs pushed n is place = record {
  place = place ∙ sym (length-map structs (option_map members_of));
  unclosed = slice_get-map (option_map members_of) pushed n ∙ ap (option_map (option_map members_of)) (ap₂ slice_get is place ∙ none_behind structs);
  rest = ap (λ ss. table_of kinds ss) is ∙ view_opened kinds structs;
}

pub opened_keeps : (kinds : List (TypeKind × Option Measure)) (structs pushed : List (Option Body)) → pushed ≡ structs ++ None ∷ []
    → KeepsSizes (table_of kinds structs) (table_of kinds pushed)
opened_keeps kinds structs pushed is =
    let now : table_of kinds pushed ≡ record (table_of kinds structs) { structs = map (option_map members_of) structs ++ None ∷ [] } =
    ap (λ ss. table_of kinds ss) is ∙ view_opened kinds structs in
    keeps (table_of kinds structs) (table_of kinds pushed) (subst (Grows (table_of kinds structs)) (sym now) (opened_grows (table_of kinds structs)))

pub closed_keeps : (old new : Table) (s : StructId) (members : List Member) → IsOpen old s → new ≡ closed old s members → KeepsSizes old new
closed_keeps old new s members unclosed is = keeps old new (subst (Grows old) (sym is) (closed_grows old s members unclosed))
