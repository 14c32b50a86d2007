-- What the members of a struct are: types that have sizes from some node on.
use Rattle.std.proofs.Common.{◌≡◌, inl, inr, ℕ, zero, suc, ◌<◌, ◌≤◌, Bool, true, false, not, List, [], ◌∷◌, ◌++◌, length, map, Option, Some, None, refl, sym, ap, ◌∙◌, arith, true≢false}
use Rattle.std.specs.Prelude.{slice_get, take, drop, option_map, flat_map, if◌then◌else◌}
use Rattle.std.specs.Option.{is_some}
use Rattle.std.specs.List.{AllByRecursion, list_all}
use Rattle.c_syntax.specs.declared.kind.SynKind.{SynKind}
use Rattle.c_syntax.specs.declared.kind.SynKind.TheVariants as kind
use Rattle.c_grammar.specs.Vocabulary.{is_type_word, is_storage_word}
use Rattle.c_typing.specs.Types.{CType, Field, has_size}
use Rattle.c_typing.specs.Names.{Places}
use Rattle.c_typing.specs.Judgements.{rule, members, Judgement, means, layouts}
use Rattle.c_typing.specs.Declarators.{members_of, laid}
use Rattle.c_typing.specs.Shapes as category
use Rattle.c_typing.specs.Shapes.{Category, category_by, kids_fit}
use Rattle.c_typing.specs.Typing.{judgements_at}
use Rattle.c_typing.proofs.ProgressForms.{is_part, split}
use Rattle.c_typing.proofs.ProgressKinds as of
use Rattle.c_typing.proofs.ProgressSizes.{over_no, brackets_no}
use Rattle.c_typing.proofs.ProgressSized.{sized_later}
use Rattle.c_typing.proofs.MadeJudged.{IsFront}
use Rattle.c_typing.proofs.MadeNodes.{In}
use Rattle.c_typing.proofs.MadeCopiedSizes.{is_hollow}
use Rattle.c_typing.proofs.MadeCopiedTypes.{front_is}

-- ---- from a node on, a type has a size

pub shorter_front : {A : Type 0} (n : ℕ) (xs ys : List A) → n ≤ length xs → take n (xs ++ ys) ≡ take n xs
shorter_front zero [] ys le = none ys
  where
    none : {A : Type 0} (zs : List A) → take 0 zs ≡ []
    none [] = refl
    none (z ∷ zs) = refl
shorter_front zero (x ∷ xs) ys le = refl
shorter_front (suc n) [] ys le = absurd (omega (arith, le))
shorter_front (suc n) (x ∷ xs) ys le = ap (λ zs. x ∷ zs) (shorter_front n xs ys (omega (arith, le)))

abbrev pub Sized : Places → ℕ → CType → Type 0
Sized p n u = (js : List Judgement) → IsFront p js → n ≤ length js → has_size (layouts js) u ≡ true

pub sized_from : (p : Places) (js : List Judgement) (n : ℕ) (u : CType) → IsFront p js → length js ≡ n → has_size (layouts js) u ≡ true → Sized p n u
sized_from p js n u front long e ks other le =
    let same : take n ks ≡ js = sym (shorter_front n ks other.0 le) ∙ (ap (λ xs. take n xs) (sym other.1) ∙ front_is js front.0 (judgements_at p) n front.1 long) in
    sized_later ks n u (ap (λ xs. has_size (layouts xs) u) same ∙ e)

pub sized_on : (p : Places) (n m : ℕ) (u : CType) → n ≤ m → Sized p n u → Sized p m u
sized_on p n m u le h js front more = h js front (omega (arith, le, more))

-- ---- members

pub record IsMember (p : Places) (n : ℕ) (f : Field) : Type 0 where
  pub full : is_hollow f.type ≡ false
  pub sized : Sized p n f.type

abbrev pub is_member_kind : SynKind → Bool
is_member_kind kind.Member = true
is_member_kind k = false

abbrev pub Filled : List Field → Type 0
Filled fs = 0 < length fs

pub member_typed : (o : Option CType) (name : List ℕ) (f : Field) → option_map (λ t. record { name = name; type = t; offset = 0 }) o ≡ Some f → o ≡ Some f.type
member_typed None name f e = absurd (cc e)
member_typed (Some u) name f e = let same : record { name = name; type = u; offset = 0 } ≡ f = cc e in ap (λ (g : Field). Some g.type) same

pub members_meant : (j : Judgement) (fs : List Field) → members_of j ≡ Some fs → j ≡ means (members fs)
members_meant (means (members gs)) fs e = let same : gs ≡ fs = cc e in ap (λ z. means (members z)) same
members_meant _ fs e = absurd (cc e)

pub size_there : (b : Bool) (n : ℕ) → (if not b then rule 5 n ∷ [] else []) ≡ [] → b ≡ true
size_there true n e = refl
size_there false n e = absurd (cc e)

pub all_in : (cat : ℕ → Category) (test : Category → Bool) (ks : List ℕ) (k : ℕ) → list_all test (map cat ks) ≡ true → In k ks → test (cat k) ≡ true
all_in cat test [] k e h = absurd h
all_in cat test (x ∷ ks) k e (inl same) = ap (λ i. test (cat i)) (sym same) ∙ (split e).0
all_in cat test (x ∷ ks) k e (inr h) = all_in cat test ks k (split e).1 h

pub word_no_member : (s t : Bool) → category.is_member (if s then category.storage_word else if t then category.type_specifier else category.typedef_name) ≡ false
word_no_member true t = refl
word_no_member false true = refl
word_no_member false false = refl

pub no : {A : Type 0} → false ≡ true → A
no e = absurd (true≢false (sym e))

pub member_kind : (k : SynKind) (text : List ℕ) (cs : List Category) → category.is_member (category_by k text cs) ≡ true → k ≡ kind.Member
unfolding category_by
member_kind kind.Member text cs e = refl
member_kind kind.Word text cs e = no (sym (word_no_member (is_storage_word text) (is_type_word text)) ∙ e)
member_kind kind.Pointer text cs e = no (sym (over_no category.is_member refl refl refl cs) ∙ e)
member_kind kind.ArrayOf text cs e = no (sym (over_no category.is_member refl refl refl cs) ∙ e)
member_kind kind.Paren text cs e = no (sym (brackets_no category.is_member refl refl refl refl cs) ∙ e)
member_kind _ text cs e = no e

pub part_among : (cat : ℕ → Category) (ks : List ℕ) (k : ℕ) → list_all category.is_declarator (map cat ks) ≡ true → In k ks → is_part (cat k) ≡ true
part_among cat ks k e h = part (cat k) (all_in cat category.is_declarator ks k e h)
  where
    part : (c : Category) → category.is_declarator c ≡ true → is_part c ≡ true
    part category.declarator g = refl
    part _ g = absurd (true≢false (sym g))

pub rest_of : (cat : ℕ → Category) (ks : List ℕ) → of.rest (map cat ks) ≡ map cat (drop 1 ks)
rest_of cat [] = refl
rest_of cat (k ∷ ks) = refl

pub some_others : (text : List ℕ) (cat : ℕ → Category) (ks : List ℕ) → kids_fit kind.Member text (map cat ks) ≡ true → 0 < length (drop 1 ks)
unfolding kids_fit
some_others text cat [] e = absurd (true≢false (sym e))
some_others text cat (k ∷ []) e = none (cat k) e
  where
    none : (c : Category) → kids_fit kind.Member text (c ∷ []) ≡ true → 0 < 0
    none category.specifiers e = absurd (true≢false (sym e))
    none _ e = absurd (true≢false (sym e))
some_others text cat (k ∷ d ∷ ks) e = omega arith

-- the members of a struct at their offsets are as before
pub laid_all : (p : Places) (n : ℕ) (fs : List Field) (ats : List ℕ) → AllByRecursion (λ (f : Field). IsMember p n f) fs → AllByRecursion (λ (f : Field). Sized p n f.type) (laid fs ats)
laid_all p n [] ats h = tt
laid_all p n (f ∷ fs) [] h = tt
laid_all p n (f ∷ fs) (at ∷ ats) h = ((h.0).sized, laid_all p n fs ats h.1)

-- the first part has a member, so all of them have
pub first_filled : (parts : List (List Field)) → 0 < length parts → AllByRecursion (λ part. Filled part) parts → Filled (flat_map (λ part. part) parts)
first_filled [] lt h = absurd (omega (arith, lt))
first_filled ([] ∷ parts) lt h = let none = h.0 in absurd (omega (arith, none))
first_filled ((f ∷ fs) ∷ parts) lt h = omega arith

pub some_kids : (ks : List ℕ) → is_some (slice_get ks 0) ≡ true → 0 < length ks
some_kids [] e = absurd (true≢false (sym e))
some_kids (k ∷ ks) e = omega arith

pub all_first : {A : Type 0} (P Q : A → Type 0) (xs : List A) → AllByRecursion (λ x. P x × Q x) xs → AllByRecursion P xs
all_first {A} P Q [] h = tt
all_first {A} P Q (x ∷ xs) h = ((h.0).0, all_first P Q xs h.1)

pub all_second : {A : Type 0} (P Q : A → Type 0) (xs : List A) → AllByRecursion (λ x. P x × Q x) xs → AllByRecursion Q xs
all_second {A} P Q [] h = tt
all_second {A} P Q (x ∷ xs) h = ((h.0).1, all_second P Q xs h.1)
