-- The members of each struct have sizes, and stand in order within it.
use Rattle.std.proofs.Common.{◌≡◌, ℕ, zero, suc, ◌+◌, ◌<◌, ◌≤◌, Bool, true, false, List, [], ◌∷◌, ◌++◌, map, Some, refl, sym, ap, ◌∙◌, subst, arith, true≢false, unwrap_or}
use Rattle.std.specs.Prelude.{take, if◌then◌else◌, ◌==◌}
use Rattle.std.specs.List.{AllByRecursion}
use Rattle.c_syntax.specs.declared.kind.SynKind.{SynKind}
use Rattle.c_syntax.specs.declared.kind.SynKind.TheVariants as kind
use Rattle.c_grammar.specs.Vocabulary.{is_type_word, is_storage_word}
use Rattle.c_types.specs.declared.kind.Measure.{Measure}
use Rattle.c_types.specs.InOrder.{end_from, end_of, offsets_from, least_multiple, greatest_align}
use Rattle.c_types.specs.Sizes.{struct_measure}
use Rattle.c_types.proofs.OrderLaws.{least_multiple_behind, greatest_align_some, some_alignment}
use Rattle.c_typing.specs.Types.{Field, Layout, layout_of, measure, no_measure, has_size, size_of}
use Rattle.c_typing.specs.Names.{Places}
use Rattle.c_typing.specs.Judgements.{Meaning, a_struct, Judgement, means, judgement_at, layouts}
use Rattle.c_typing.specs.Declarators.{laid, layout}
use Rattle.c_typing.specs.Shapes as category
use Rattle.c_typing.specs.Shapes.{Category, category_by, kids_fit, is_member}
use Rattle.c_typing.specs.Typing.{judgements_at}
use Rattle.c_typing.proofs.MadeSizes.{IsAligned, AllAligned, aligned, layouts_all, all_laid}
use Rattle.c_typing.proofs.ProgressTargets.{layouts_front}
use Rattle.c_typing.proofs.ProgressSizes.{over_no, brackets_no}
use Rattle.c_typing.proofs.MadeCellsTypes.{FieldsStand, AllLaid}
use Rattle.c_typing.proofs.MadeCellsLater.{sized_more, size_more, layouts_later}

no : {A : Type 0} → false ≡ true → A
no e = absurd (true≢false (sym e))

-- ---- members that are laid out

abbrev pub Sized : List Layout → Field → Type 0
Sized ls f = has_size ls f.type ≡ true

abbrev measures : List Layout → List Field → List Measure
measures ls fields = map (λ (f : Field). unwrap_or (measure ls f.type) no_measure) fields

laid_from : (ls : List Layout) (end size : ℕ) (fields : List Field) → AllAligned ls → AllByRecursion (Sized ls) fields → end_from end (measures ls fields) ≤ size → FieldsStand ls end (laid fields (offsets_from end (measures ls fields))) size
laid_from ls end size [] ok h le = le
laid_from ls end size (f ∷ fields) ok h le =
    let m = unwrap_or (measure ls f.type) no_measure in
    (least_multiple_behind m.align end (some_alignment m.align (aligned ls f.type ok).align), h.0, laid_from ls (least_multiple m.align end + m.size) size fields ok h.1 le)

pub laid_stand : (ls : List Layout) (k : ℕ) (fields : List Field) → AllAligned ls → AllByRecursion (Sized ls) fields → FieldsStand ls 0 (layout ls k fields).fields (layout ls k fields).measure.size
laid_stand ls k fields ok h = laid_from ls 0 (struct_measure (measures ls fields)).size fields ok h (least_multiple_behind (greatest_align (measures ls fields)) (end_of (measures ls fields)) (greatest_align_some (measures ls fields)))

-- they stand so while more is laid out
pub fields_more : (ls more : List Layout) (from : ℕ) (fs : List Field) (size : ℕ) → FieldsStand ls from fs size → FieldsStand (ls ++ more) from fs size
fields_more ls more from [] size h = h
fields_more ls more from (f ∷ fs) size h =
    (h.0, sized_more ls more f.type h.1, subst (λ n. FieldsStand (ls ++ more) (f.offset + n) fs size) (sym (size_more ls more f.type h.1)) (fields_more ls more (f.offset + size_of ls f.type) fs size h.2))

-- ---- lists of structs

found_all : (P : Layout → Type 0) (ls : List Layout) (k : ℕ) (l : Layout) → AllByRecursion P ls → layout_of ls k ≡ Some l → P l
found_all P [] k l h e = absurd (cc e)
found_all P (x ∷ ls) k l h e = by (x.number == k) e (λ g. found_all P ls k l h.1 g)
  where
    by : (b : Bool) → (if b then Some x else layout_of ls k) ≡ Some l → (layout_of ls k ≡ Some l → P l) → P l
    by true g more = let same : x ≡ l = cc g in subst P same h.0
    by false g more = more g

all_front : (P : Layout → Type 0) (xs ys : List Layout) → AllByRecursion P (xs ++ ys) → AllByRecursion P xs
all_front P [] ys h = tt
all_front P (x ∷ xs) ys h = (h.0, all_front P xs ys h.1)

pub taken : (js : List Judgement) (b k : ℕ) (m : Meaning) → judgement_at (take b js) k ≡ means m → (k < b) × (judgement_at js k ≡ means m)
taken [] zero k m e = absurd (cc e)
taken (j ∷ js) zero k m e = absurd (cc e)
taken [] (suc b) k m e = absurd (cc e)
taken (j ∷ js) (suc b) zero m e = (omega arith, e)
taken (j ∷ js) (suc b) (suc k) m e = let h = taken js b k m e in let lt = h.0 in (omega (arith, lt), h.1)

-- ---- which kinds are members

word_no_member : (s t : Bool) → is_member (if s then category.storage_word else if t then category.type_specifier else category.typedef_name) ≡ false
word_no_member true t = refl
word_no_member false true = refl
word_no_member false false = refl

pub member_kind : (k : SynKind) (text : List ℕ) (cs : List Category) → is_member (category_by k text cs) ≡ true → k ≡ kind.Member
unfolding category_by
member_kind kind.Member text cs e = refl
member_kind kind.Word text cs e = no (sym (word_no_member (is_storage_word text) (is_type_word text)) ∙ e)
member_kind kind.Pointer text cs e = no (sym (over_no is_member refl refl refl cs) ∙ e)
member_kind kind.ArrayOf text cs e = no (sym (over_no is_member refl refl refl cs) ∙ e)
member_kind kind.Paren text cs e = no (sym (brackets_no is_member refl refl refl refl cs) ∙ e)
member_kind _ text cs e = no e

-- ---- all structs of a unit, where each is laid out within itself

module _ (p : Places) (laid_at : (n : ℕ) (l : Layout) → judgement_at (judgements_at p) n ≡ means (a_struct l) → FieldsStand (layouts (take n (judgements_at p))) 0 l.fields l.measure.size) where
  pub always_laid : (b : ℕ) → AllLaid (layouts (take b (judgements_at p)))
  always_laid b k l e = found_all (λ (x : Layout). FieldsStand (layouts (take b (judgements_at p))) 0 x.fields x.measure.size) (layouts (take b (judgements_at p))) k l
      (layouts_all (λ (x : Layout). FieldsStand (layouts (take b (judgements_at p))) 0 x.fields x.measure.size) (take b (judgements_at p)) (λ n x g. each n x (taken (judgements_at p) b n (a_struct x) g))) e
    where
      each : (n : ℕ) (x : Layout) → (n < b) × (judgement_at (judgements_at p) n ≡ means (a_struct x)) → FieldsStand (layouts (take b (judgements_at p))) 0 x.fields x.measure.size
      each n x h =
          let lt = h.0 in
          let r = layouts_later (judgements_at p) n b (omega (arith, lt)) in
          subst (λ ls. FieldsStand ls 0 x.fields x.measure.size) (sym r.1) (fields_more (layouts (take n (judgements_at p))) r.0 0 x.fields x.measure.size (laid_at n x h.1))

-- structs that are complete are aligned from the first on
pub take_all : (js : List Judgement) (n : ℕ) → (rest : List Judgement) × (js ≡ take n js ++ rest)
take_all js zero = (js, by js)
  where
    by : (ks : List Judgement) → ks ≡ take 0 ks ++ ks
    by [] = refl
    by (k ∷ ks) = refl
take_all [] (suc n) = ([], refl)
take_all (j ∷ js) (suc n) = let r = take_all js n in (r.0, ap (λ ks. j ∷ ks) r.1)

pub aligned_front : (p : Places) (n : ℕ) → AllAligned (layouts (take n (judgements_at p)))
aligned_front p n =
    let r = take_all (judgements_at p) n in
    all_front (λ (l : Layout). IsAligned l.measure) (layouts (take n (judgements_at p))) (layouts r.0)
    (subst (λ ls. AllAligned ls) (ap layouts r.1 ∙ layouts_front (take n (judgements_at p)) r.0) (all_laid p))
