-- The types that specs say pass no test that those of typedef names pass not, where no void, integer or struct passes.
use Rattle.std.proofs.Common.{◌≡◌, ℕ, suc, Bool, true, false, ◌||◌, List, [], ◌∷◌, ◌++◌, map, Option, Some, None, refl, sym, ap, ◌∙◌, subst, true≢false}
use Rattle.std.specs.Prelude.{slice_get, unwrap_or, if◌then◌else◌, filter, flat_map, find, option_map}
use Rattle.c_syntax.specs.declared.kind.SynKind.TheVariants as kind
use Rattle.c_grammar.specs.Vocabulary.{is_type_word, is_storage_word}
use Rattle.c_typing.specs.Types.{CType, IntegerType, void, integer, int, struct}
use Rattle.c_typing.specs.Places.{Node, has_kid, kind_at, text_at, is_word}
use Rattle.c_typing.specs.Names.{Places, Name, is_typedef, denoted, tag_of}
use Rattle.c_typing.specs.Judgements.{rule, Fault, Meaning, itself, a_type, a_struct, Judgement, means, breaks_rules, waits, verdict, besides, given, all_of, before, judgement_at}
use Rattle.c_typing.specs.Rules.{bad_type_words, bad_storage_class, unknown_name}
use Rattle.c_typing.specs.Expressions.{type_of_name, word_of_enumerator}
use Rattle.c_typing.specs.Declarators.{typedef_type, spec_word, spec_meaning, is_storage, place_of_specs, specs, said_type, type_words, are_same_words, members_of, struct_body, struct_specifier, tag_faults, member_faults, is_known_enum, enum_specifier}
use Rattle.c_typing.specs.Typing.{judged_by}

no : {A : Type 0} → false ≡ true → A
no e = absurd (true≢false (sym e))

-- a type that is meant does not pass the test
pub record Plain (test : CType → Bool) (j : Judgement) : Type 0 where
  pub plain : (t : CType) → j ≡ means (a_type t) → test t ≡ false

abbrev is_type : Judgement → Bool
is_type (means (a_type t)) = true
is_type j = false

type_same : {t u : CType} → means (a_type t) ≡ means (a_type u) → t ≡ u
type_same e = cc e

module _ (test : CType → Bool) (none : test void ≡ false) (numbers : (k : IntegerType) → test (integer k) ≡ false) (structs : (k : ℕ) → test (struct k) ≡ false) where
  other : (j : Judgement) → is_type j ≡ false → Plain test j
  other j h = record { plain = λ t e. no (sym h ∙ ap is_type e) }

  typed : (t : CType) → test t ≡ false → Plain test (means (a_type t))
  typed t h = record { plain = λ u e. ap test (sym (type_same e)) ∙ h }

  verdict_plain : (fs : List Fault) (m : Meaning) → Plain test (means m) → Plain test (verdict fs m)
  verdict_plain [] m h = h
  verdict_plain (f ∷ fs) m h = other (breaks_rules f fs) refl

  besides_plain : (fs : List Fault) (j : Judgement) → Plain test j → Plain test (besides fs j)
  besides_plain [] j h = h
  besides_plain (f ∷ fs) (means m) h = other (breaks_rules f fs) refl
  besides_plain (f ∷ fs) (breaks_rules g gs) h = other (breaks_rules f (fs ++ g ∷ gs)) refl
  besides_plain (f ∷ fs) waits h = other (breaks_rules f fs) refl

  given_plain : {A : Type 0} (o : Option A) (f : A → Judgement) → ((a : A) → o ≡ Some a → Plain test (f a)) → Plain test (given o f)
  given_plain {A = A} None f h = other waits refl
  given_plain {A = A} (Some a) f h = h a refl

  choice_plain : (b : Bool) (x y : Judgement) → Plain test x → Plain test y → Plain test (if b then x else y)
  choice_plain true x y h k = h
  choice_plain false x y h k = k

  -- ---- what specs say

  abbrev AllPlain : List CType → Type 0
  AllPlain [] = Unit {0}
  AllPlain (t ∷ ts) = (test t ≡ false) × AllPlain ts

  plain_front : (xs ys : List CType) → AllPlain xs → AllPlain ys → AllPlain (xs ++ ys)
  plain_front [] ys h k = k
  plain_front (x ∷ xs) ys h k = (h.0, plain_front xs ys h.1 k)

  abbrev RowsPlain : List (List (List ℕ) × CType) → Type 0
  RowsPlain [] = Unit {0}
  RowsPlain (r ∷ rs) = (test r.1 ≡ false) × RowsPlain rs

  found_plain : (row : List (List ℕ) × CType → Bool) (rows : List (List (List ℕ) × CType)) → RowsPlain rows → test (unwrap_or (option_map (λ row. row.1) (find row rows)) void) ≡ false
  found_plain row [] h = none
  found_plain row (r ∷ rows) h = by (row r) (found_plain row rows h.1)
    where
      by : (b : Bool) → test (unwrap_or (option_map (λ row. row.1) (find row rows)) void) ≡ false → test (unwrap_or (option_map (λ row. row.1) (if b then Some r else find row rows)) void) ≡ false
      by true e = h.0
      by false e = e

  rows_plain : RowsPlain type_words
  rows_plain = (none, (numbers _, (numbers _, (numbers _, (numbers _, (numbers _, (numbers _, (numbers _, (numbers _, (numbers _, (numbers _, (numbers _, (numbers _, (numbers _, (numbers _, (numbers _, (numbers _, (numbers _, (numbers _, (numbers _, (numbers _, (numbers _, tt))))))))))))))))))))))

  said_plain : (words : List (List ℕ)) (ts : List CType) → AllPlain ts → test (unwrap_or (said_type words ts) void) ≡ false
  said_plain words [] h = found_plain (λ row. are_same_words words row.0) type_words rows_plain
  said_plain [] (t ∷ []) h = h.0
  said_plain [] (t ∷ u ∷ ts) h = none
  said_plain (w ∷ ws) (t ∷ ts) h = none

  meaning_plain : (j : Judgement) (ts : List CType) → Plain test j → spec_meaning j ≡ Some ts → AllPlain ts
  meaning_plain j ts h e = by j h e
    where
      same : {xs ys : List CType} → Some xs ≡ Some ys → xs ≡ ys
      same f = cc f

      of : (m : Meaning) → Plain test (means m) → spec_meaning (means m) ≡ Some ts → AllPlain ts
      of itself h e = subst (λ xs. AllPlain xs) (same e) tt
      of (a_type t) h e = subst (λ xs. AllPlain xs) (same e) (h.plain t refl, tt)
      of (a_struct l) h e = subst (λ xs. AllPlain xs) (same e) (structs _, tt)
      of _ h e = absurd (cc e)

      by : (j : Judgement) → Plain test j → spec_meaning j ≡ Some ts → AllPlain ts
      by (means m) h e = of m h e
      by (breaks_rules f fs) h e = absurd (cc e)
      by waits h e = absurd (cc e)

  all_plain : (js : List Judgement) (ks : List ℕ) → ((i k : ℕ) → slice_get ks i ≡ Some k → Plain test (judgement_at js k)) → (tss : List (List CType)) → all_of (map (λ n. spec_meaning (judgement_at js n)) ks) ≡ Some tss → AllPlain (flat_map (λ ts. ts) tss)
  all_plain js [] h tss e = subst (λ (xs : List (List CType)). AllPlain (flat_map (λ ts. ts) xs)) (same e) tt
    where
      same : {xs ys : List (List CType)} → Some xs ≡ Some ys → xs ≡ ys
      same f = cc f
  all_plain js (k ∷ ks) h tss e = by (spec_meaning (judgement_at js k)) (λ ts f. meaning_plain (judgement_at js k) ts (h 0 k refl) f) (λ xs f. all_plain js ks (λ i j at. h (suc i) j at) xs f) e
    where
      same : {xs ys : List (List CType)} → Some xs ≡ Some ys → xs ≡ ys
      same f = cc f

      more : (ts : List CType) → AllPlain ts → (q : Option (List (List CType))) → ((xs : List (List CType)) → q ≡ Some xs → AllPlain (flat_map (λ ts. ts) xs)) → before ts q ≡ Some tss → AllPlain (flat_map (λ ts. ts) tss)
      more ts f None g e = absurd (cc e)
      more ts f (Some xs) g e = subst (λ (ys : List (List CType)). AllPlain (flat_map (λ ts. ts) ys)) (same e) (plain_front ts (flat_map (λ ts. ts) xs) f (g xs refl))

      by : (o : Option (List CType)) → ((ts : List CType) → o ≡ Some ts → AllPlain ts)
          → ((xs : List (List CType)) → all_of (map (λ n. spec_meaning (judgement_at js n)) ks) ≡ Some xs → AllPlain (flat_map (λ ts. ts) xs))
          → all_of (o ∷ map (λ n. spec_meaning (judgement_at js n)) ks) ≡ Some tss → AllPlain (flat_map (λ ts. ts) tss)
      by None f g e = absurd (cc e)
      by (Some ts) f g e = more ts (f ts refl) (all_of (map (λ n. spec_meaning (judgement_at js n)) ks)) g e

  -- ---- nodes

  module _ (p : Places) (js : List Judgement) (node : Node) where
    pub word_plain : ((e : Name) (t : CType) → denoted p.names node.id node.label.text ≡ Some e → is_typedef e.entity ≡ true → type_of_name js e ≡ Some t → test t ≡ false) → Plain test (judged_by p js node kind.Word)
    unfolding judged_by spec_word typedef_type
    word_plain h = choice_plain (is_storage_word node.label.text || is_type_word node.label.text) _ _ (other (means itself) refl) (by (denoted p.names node.id node.label.text) h)
      where
        named : (e : Name) (b : Bool) → is_typedef e.entity ≡ b → (is_typedef e.entity ≡ true → (t : CType) → type_of_name js e ≡ Some t → test t ≡ false)
            → Plain test (if b then given (type_of_name js e) (λ t. means (a_type t)) else verdict (bad_type_words None node.id) itself)
        named e true same h = given_plain (type_of_name js e) (λ t. means (a_type t)) (λ t f. typed t (h same t f))
        named e false same h = other (breaks_rules (rule 1 node.id) []) refl

        by : (o : Option Name) → ((e : Name) (t : CType) → o ≡ Some e → is_typedef e.entity ≡ true → type_of_name js e ≡ Some t → test t ≡ false) → Plain test (typedef_type js node o)
        by None h = other (breaks_rules (rule 1 node.id) []) refl
        by (Some e) h = named e (is_typedef e.entity) refl (λ s t f. h e t refl s f)

    pub struct_plain : Plain test (judged_by p js node kind.StructSpec)
    unfolding judged_by struct_specifier struct_body
    struct_plain =
        choice_plain (has_kid node 0) _ _
        (besides_plain (tag_faults p node (tag_of p node.id) ++ member_faults [] (map (λ part. unwrap_or part []) (map (λ n. members_of (judgement_at js n)) node.kids)) node.kids) _
        (given_plain (all_of (map (λ n. members_of (judgement_at js n)) node.kids)) _ (λ fields e. verdict_plain _ _ (other (means (a_struct _)) refl))))
        (verdict_plain (tag_faults p node (tag_of p node.id)) _ (typed (struct _) (structs _)))

    pub enum_plain : Plain test (judged_by p js node kind.EnumSpec)
    unfolding judged_by enum_specifier
    enum_plain =
        besides_plain (unknown_name (is_known_enum node (tag_of p node.id)) node.id ++ tag_faults p node (tag_of p node.id)) _
        (given_plain (all_of (map (λ n. word_of_enumerator (judgement_at js n)) node.kids)) _ (λ values e. typed (integer int) (numbers int)))

    pub specs_plain : ((i k : ℕ) → slice_get node.kids i ≡ Some k → Plain test (judgement_at js k)) → Plain test (judged_by p js node kind.Specs)
    unfolding judged_by specs
    specs_plain h =
        besides_plain (bad_storage_class (place_of_specs p node) (filter is_storage (map (text_at p.nodes) (filter (λ n. is_word (kind_at p.nodes n)) node.kids))) node.id) _
        (given_plain (all_of (map (λ n. spec_meaning (judgement_at js n)) node.kids)) _ (λ types e. verdict_plain _ _
        (typed _ (said_plain (filter is_type_word (map (text_at p.nodes) (filter (λ n. is_word (kind_at p.nodes n)) node.kids))) (flat_map (λ ts. ts) types) (all_plain js node.kids h types e)))))
