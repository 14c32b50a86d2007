-- Sizes and alignments: each alignment is 1, 2 or 4, and each size is a multiple of it.
use Rattle.std.proofs.Common.{◌≡◌, ◌⊎◌, inl, inr, ℕ, suc, ◌+◌, ◌*◌, ◌-◌, ◌/◌, ◌%◌, max, Bool, true, false, ◌||◌, cond, List, [], ◌∷◌, ◌++◌, length, map, Option, Some, None, refl, sym, ap, ◌∙◌, subst, arith, true≢false, unwrap_or, mul-zero}
use Rattle.std.proofs.Math.Nat.{mul-mod_left}
use Rattle.std.proofs.lemmas.Nat.{mul-mod_second}
use native.Mathlib.Nat.{zero-mul}
use Rattle.std.specs.Prelude.{flat_map, option_map, ◌==◌}
use Rattle.std.specs.List.{AllByRecursion}
use Rattle.c_syntax.specs.declared.kind.SynKind.{SynKind}
use Rattle.c_syntax.specs.declared.kind.SynKind.TheVariants as kind
use Rattle.c_types.specs.declared.kind.Measure.{Measure}
use Rattle.c_types.specs.declared.tree.Object.{Object}
use Rattle.c_types.specs.InOrder.{end_of, greatest_align, least_multiple}
use Rattle.c_types.specs.Sizes.{struct_measure, array_measure}
use Rattle.c_types.specs.WellMade.{IsAlignment}
use Rattle.c_typing.specs.Types as type
use Rattle.c_typing.specs.Types.{CType, CTypes, void, integer, pointer, array, unsized, struct, function, Field, Layout, layout_of, measure, no_measure, traits_of, IntegerType}
use Rattle.c_typing.specs.Places.{Node}
use Rattle.c_typing.specs.Names.{Places, Name, objects_of}
use Rattle.c_typing.specs.Judgements.{Meaning, a_struct, Judgement, means, judgement_at, layouts}
use Rattle.c_typing.specs.Expressions.{type_of_name}
use Rattle.c_typing.specs.Typing.{judged_by, judgements_at, object_of, literal_object, literals_of, data_of}
use Rattle.c_typing.proofs.MadeJudged.{Yields, Known, all_known}
use Rattle.c_typing.proofs.MadeForms.{is_active, is_passive_kind, passive_row, braces_row, struct_row}
use Rattle.c_typing.proofs.MadeAnything.{any_row}
use Rattle.c_typing.proofs.MadeOthers.{is_statement_kind, statement_row, function_row}
use Rattle.c_typing.proofs.MadeStatements.{is_expression_kind}

pub record IsAligned (m : Measure) : Type 0 where
  pub align : IsAlignment m.align
  pub whole : m.size % m.align ≡ 0

abbrev pub AllAligned : List Layout → Type 0
AllAligned ls = AllByRecursion (λ (l : Layout). IsAligned l.measure) ls

abbrev OptionAligned : Option Measure → Type 0
OptionAligned None = Unit {0}
OptionAligned (Some m) = IsAligned m

integer_aligned : (k : IntegerType) → IsAligned (record { size = (traits_of k).size; align = (traits_of k).size })
integer_aligned type.bool = record { align = inl refl; whole = refl }
integer_aligned type.char = record { align = inl refl; whole = refl }
integer_aligned type.schar = record { align = inl refl; whole = refl }
integer_aligned type.uchar = record { align = inl refl; whole = refl }
integer_aligned type.short = record { align = inr (inl refl); whole = refl }
integer_aligned type.ushort = record { align = inr (inl refl); whole = refl }
integer_aligned type.int = record { align = inr (inr refl); whole = refl }
integer_aligned type.uint = record { align = inr (inr refl); whole = refl }
integer_aligned type.long = record { align = inr (inr refl); whole = refl }
integer_aligned type.ulong = record { align = inr (inr refl); whole = refl }

many_whole : (n size align : ℕ) → IsAlignment align → size % align ≡ 0 → n * size % align ≡ 0
many_whole n size align a e = sym (mul-mod_second n size align) ∙ (ap (λ k. n * k % align) e ∙ (ap (λ k. k % align) (mul-zero n ∙ sym (zero-mul align)) ∙ mul-mod_left 0 align))

array_aligned : (n : ℕ) (o : Option Measure) → OptionAligned o → OptionAligned (option_map (array_measure n) o)
array_aligned n None h = tt
array_aligned n (Some m) h = record { align = h.align; whole = many_whole n m.size m.align h.align h.whole }

layout_aligned : (ls : List Layout) (k : ℕ) → AllAligned ls → OptionAligned (option_map (λ (l : Layout). l.measure) (layout_of ls k))
layout_aligned [] k h = tt
layout_aligned (l ∷ ls) k h = by (l.number == k) (layout_aligned ls k h.1)
  where
    by : (b : Bool) → OptionAligned (option_map (λ (x : Layout). x.measure) (layout_of ls k)) → OptionAligned (option_map (λ (x : Layout). x.measure) (cond b (Some l) (layout_of ls k)))
    by true g = h.0
    by false g = g

measure_aligned : (ls : List Layout) (t : CType) → AllAligned ls → OptionAligned (measure ls t)
measure_aligned ls void h = tt
measure_aligned ls (integer k) h = integer_aligned k
measure_aligned ls (pointer t) h = record { align = inr (inr refl); whole = refl }
measure_aligned ls (array t n) h = array_aligned n (measure ls t) (measure_aligned ls t h)
measure_aligned ls (unsized t) h = tt
measure_aligned ls (struct k) h = layout_aligned ls k h
measure_aligned ls (function r ps) h = tt

or_none : (o : Option Measure) → OptionAligned o → IsAligned (unwrap_or o no_measure)
or_none None h = record { align = inl refl; whole = refl }
or_none (Some m) h = h

pub aligned : (ls : List Layout) (t : CType) → AllAligned ls → IsAligned (unwrap_or (measure ls t) no_measure)
aligned ls t h = or_none (measure ls t) (measure_aligned ls t h)

-- ---- structs

greatest_is : (ms : List Measure) → AllByRecursion IsAligned ms → IsAlignment (greatest_align ms)
greatest_is [] h = inl refl
greatest_is (m ∷ ms) h = more m.align (greatest_align ms) (h.0).align (greatest_is ms h.1)
  where
    either_is : (a b : ℕ) → (max a b ≡ a) ⊎ (max a b ≡ b)
    either_is a b = grind arith

    more : (a b : ℕ) → IsAlignment a → IsAlignment b → IsAlignment (max a b)
    more a b f g = by (either_is a b)
      where
        by : (max a b ≡ a) ⊎ (max a b ≡ b) → IsAlignment (max a b)
        by (inl e) = subst IsAlignment (sym e) f
        by (inr e) = subst IsAlignment (sym e) g

multiple : (align from : ℕ) → IsAlignment align → least_multiple align from % align ≡ 0
multiple align from h = mul-mod_left ((from + (align - 1)) / align) align

pub struct_aligned : (ms : List Measure) → AllByRecursion IsAligned ms → IsAligned (struct_measure ms)
struct_aligned ms h = record { align = greatest_is ms h; whole = multiple (greatest_align ms) (end_of ms) (greatest_is ms h) }

pub members_aligned : (ls : List Layout) (fields : List Field) → AllAligned ls → AllByRecursion IsAligned (map (λ (f : Field). unwrap_or (measure ls f.type) no_measure) fields)
members_aligned ls [] h = tt
members_aligned ls (f ∷ fields) h = (aligned ls f.type h, members_aligned ls fields h)

-- ---- all structs that are complete

pub layouts_all : (P : Layout → Type 0) (js : List Judgement) → ((k : ℕ) (l : Layout) → judgement_at js k ≡ means (a_struct l) → P l) → AllByRecursion P (layouts js)
layouts_all P [] each = tt
layouts_all P (means (a_struct l) ∷ js) each = (each 0 l refl, layouts_all P js (λ k m e. each (suc k) m e))
layouts_all P (_ ∷ js) each = layouts_all P js (λ k m e. each (suc k) m e)

module _ (p : Places) where
  abbrev Laid : ℕ → Meaning → Type 0
  Laid n (a_struct l) = IsAligned l.measure
  Laid n m = Unit {0}

  free : (n : ℕ) (m : Meaning) → is_active m ≡ false → Laid n m
  free n (a_struct l) e = absurd (true≢false e)
  free n _ e = tt

  other_row : (js : List Judgement) (node : Node) (k : SynKind) → node.label.kind ≡ k → (b : Bool) → is_expression_kind k ≡ b → (c : Bool) → is_statement_kind k ≡ c → b || (c || is_passive_kind k) ≡ true → Yields (Laid (length js)) (judged_by p js node k)
  other_row js node k is true e c f g = any_row (Laid (length js)) (free (length js)) (λ ss. tt) (λ x h. tt) p js node k is e
  other_row js node k is false e true f g = statement_row (Laid (length js)) (λ ss. tt) (λ t ss cs. tt) (λ w. tt) p js node (λ q. function_row (Laid (length js)) (λ h. tt) p js node) k is f
  other_row js node k is false e false f g = passive_row (Laid (length js)) (free (length js)) (λ ss. tt) p js node k g

  row : (js : List Judgement) (node : Node) → Known p Laid js → (k : SynKind) → node.label.kind ≡ k → Yields (Laid (length js)) (judged_by p js node k)
  unfolding judged_by
  row js node known kind.StructSpec is = struct_row p js node (Laid (length js))
      (λ fields k. struct_aligned (map (λ (x : Field). unwrap_or (measure (layouts js) x.type) no_measure) (flat_map (λ fs. fs) fields)) (members_aligned (layouts js) (flat_map (λ fs. fs) fields) (layouts_all (λ (l : Layout). IsAligned l.measure) js (λ k l h. known k (a_struct l) h)))) (λ t. tt)
  row js node known kind.Braces is = braces_row (Laid (length js)) (λ n cs. tt) p js node
  row js node known k is = other_row js node k is (is_expression_kind k) refl (is_statement_kind k) refl refl

  pub all_laid : AllAligned (layouts (judgements_at p))
  all_laid = layouts_all (λ (l : Layout). IsAligned l.measure) (judgements_at p) (λ k l e. all_known p Laid (λ js node there front known. row js node known node.label.kind refl) k (a_struct l) e)

  objects_aligned : (es : List Name) → AllByRecursion (λ (o : Object). IsAlignment o.align) (map (object_of p (judgements_at p)) es)
  objects_aligned [] = tt
  objects_aligned (e ∷ es) = ((aligned (layouts (judgements_at p)) (unwrap_or (type_of_name (judgements_at p) e) void) all_laid).align, objects_aligned es)

  literals_aligned : (ns : List Node) → AllByRecursion (λ (o : Object). IsAlignment o.align) (map (λ (n : Node). literal_object n.label.bytes) ns)
  literals_aligned [] = tt
  literals_aligned (n ∷ ns) = (inl refl, literals_aligned ns)

  all_both : (xs ys : List Object) → AllByRecursion (λ (o : Object). IsAlignment o.align) xs → AllByRecursion (λ (o : Object). IsAlignment o.align) ys → AllByRecursion (λ (o : Object). IsAlignment o.align) (xs ++ ys)
  all_both [] ys h g = g
  all_both (x ∷ xs) ys h g = (h.0, all_both xs ys h.1 g)

  pub alignments : AllByRecursion (λ (o : Object). IsAlignment o.align) (data_of p (judgements_at p))
  alignments = all_both (map (object_of p (judgements_at p)) (objects_of p)) (map (λ (n : Node). literal_object n.label.bytes) (literals_of p (judgements_at p))) (objects_aligned (objects_of p)) (literals_aligned (literals_of p (judgements_at p)))
