-- Parameters of functions.
use Rattle.std.proofs.Common.{◌≡◌, ◌≢◌, ◌++◌, ◌+◌, ◌<◌, ◌≤◌, ◌||◌, ℕ, Bool, true, false, length, drop, get_or, List, [], ◌∷◌, refl, sym, ap, ◌∙◌, subst, add-one, drop-cons, arith}
use Rattle.std.specs.List.{list_any}
use Rattle.std.proofs.lemmas.Bool.{le-ltb, lt-ltb}
use Rattle.c_syntax.specs.declared.kind.SynKind.TheVariants as node
use Rattle.c_types.specs.declared.kind.TypeId.{TypeId}
use Rattle.c_typing.specs.Types.{CType, pointer, array, types_of, is_struct, is_function}
use Rattle.c_typing.specs.Judgements.{Fault, rule}
use Rattle.c_typing.specs.Rules.{broken_if, many_parameters, bad_parameter}
use Rattle.c_typing.specs.Declarators.{adjusted}
use Rattle.c_type_ids.specs.Ids.{Known, Names, NamesAll, Shows}
use Rattle.c_type_ids.specs.declared.kinds.Kind.{Kind}
use Rattle.c_type_ids.specs.declared.kinds.Kind.TheVariants as shown

abbrev pub is_bad : CType → Bool
is_bad t = is_struct t || is_function t

same_length : (k : Known) (ids : List TypeId) (ts : List CType) → NamesAll k ids (types_of ts) → length ts ≡ length ids
same_length k [] [] h = refl
same_length k [] (t ∷ ts) h = absurd h
same_length k (id ∷ ids) [] h = absurd h
same_length k (id ∷ ids) (t ∷ ts) h = let more = same_length k ids ts h.1 in omega (arith, more)

pub too_many : (k : Known) (ids : List TypeId) (n : ℕ) → 8 < length ids → (ts : List CType) → NamesAll k ids (types_of ts)
    → (others : List Fault) × (many_parameters (length ts) n ++ bad_parameter ts n ≡ rule 20 n ∷ others)
too_many k ids n h ts named =
    (bad_parameter ts n, ap (λ b. broken_if b 20 n ++ bad_parameter ts n) (lt-ltb 8 (length ts) (omega (arith, h, same_length k ids ts named))))

few : (k : Known) (ids : List TypeId) (n : ℕ) → length ids ≤ 8 → (ts : List CType) → NamesAll k ids (types_of ts) → many_parameters (length ts) n ++ bad_parameter ts n ≡ broken_if (list_any is_bad ts) 21 n
few k ids n h ts named = ap (λ b. broken_if b 20 n ++ bad_parameter ts n) (le-ltb 8 (length ts) (omega (arith, h, same_length k ids ts named)))

-- those that are left are named, and are bad where all are
pub record Left (k : Known) (ids : List TypeId) (i : ℕ) (ts : List CType) : Type 0 where
  pub types : List CType
  pub named : NamesAll k (drop i ids) (types_of types)
  pub same : list_any is_bad ts ≡ list_any is_bad types

abbrev pub SoFar : Known → List TypeId → ℕ → Type 0
SoFar k ids i = (ts : List CType) → NamesAll k ids (types_of ts) → Left k ids i ts

pub at_first : (k : Known) (ids : List TypeId) → SoFar k ids 0
at_first k ids ts named = record { types = ts; named = named; same = refl }

module _ (k : Known) (ids : List TypeId) (i : ℕ) (d : TypeId) (within : i < length ids) where
  at : drop i ids ≡ get_or ids i d ∷ drop (i + 1) ids
  at = drop-cons ids i d within ∙ ap (λ j. get_or ids i d ∷ drop j ids) (sym (add-one i))

  pub next : (bad : Bool) → ((t : CType) → Names k (get_or ids i d) t → bad ≡ is_bad t) → bad ≡ false → SoFar k ids i → SoFar k ids (i + 1)
  next bad tells good so ts named =
      let left = so ts named in
      by left.types (subst (λ xs. NamesAll k xs (types_of left.types)) at left.named) left.same
    where
      by : (us : List CType) → NamesAll k (get_or ids i d ∷ drop (i + 1) ids) (types_of us) → list_any is_bad ts ≡ list_any is_bad us → Left k ids (i + 1) ts
      by [] h e = absurd h
      by (u ∷ us) h e = record { types = us; named = h.1; same = e ∙ ap (λ b. b || list_any is_bad us) (sym (tells u h.0) ∙ good) }

  pub found_bad : (bad : Bool) → ((t : CType) → Names k (get_or ids i d) t → bad ≡ is_bad t) → bad ≡ true → length ids ≤ 8 → SoFar k ids i → (n : ℕ) (ts : List CType) → NamesAll k ids (types_of ts)
      → (others : List Fault) × (many_parameters (length ts) n ++ bad_parameter ts n ≡ rule 21 n ∷ others)
  found_bad bad tells good short so n ts named =
      let left = so ts named in
      ([], few k ids n short ts named ∙ ap (λ b. broken_if b 21 n) (by left.types (subst (λ xs. NamesAll k xs (types_of left.types)) at left.named) left.same))
    where
      by : (us : List CType) → NamesAll k (get_or ids i d ∷ drop (i + 1) ids) (types_of us) → list_any is_bad ts ≡ list_any is_bad us → list_any is_bad ts ≡ true
      by [] h e = absurd h
      by (u ∷ us) h e = e ∙ ap (λ b. b || list_any is_bad us) (sym (tells u h.0) ∙ good)

pub none_bad : (k : Known) (ids : List TypeId) (i n : ℕ) → length ids ≤ 8 → drop i ids ≡ [] → SoFar k ids i → (ts : List CType) → NamesAll k ids (types_of ts)
    → many_parameters (length ts) n ++ bad_parameter ts n ≡ []
none_bad k ids i n short e so ts named =
    let left = so ts named in
    few k ids n short ts named ∙ ap (λ b. broken_if b 21 n) (left.same ∙ by left.types (subst (λ xs. NamesAll k xs (types_of left.types)) e left.named))
  where
    by : (us : List CType) → NamesAll k [] (types_of us) → list_any is_bad us ≡ false
    by [] h = refl
    by (u ∷ us) h = absurd h

-- a type that is no array stays as it is
pub not_array : (k : Known) (K : Kind) (t : CType) → Shows k K t → ((element : TypeId) (n : ℕ) → K ≢ shown.Array element n) → adjusted node.Param t ≡ t
not_array k (shown.Array element n) (array t m) h a = absurd (a element n refl)
not_array k K (array t m) h a = absurd h
not_array k K t h a = refl

pub shown_array : (k : Known) (element : TypeId) (n : ℕ) (t : CType) → Shows k (shown.Array element n) t → (u : CType) × (adjusted node.Param t ≡ pointer u) × Names k element u
shown_array k element n (array t m) h = (t, refl, h.0)
shown_array k element n t h = absurd h
