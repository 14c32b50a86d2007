-- Assignments by `=`.
use Rattle.std.proofs.Common.{◌≡◌, ◌≢◌, ◌++◌, ℕ, Bool, true, false, not, List, [], Some, None, refl, sym, ap, ap₂, ◌∙◌, subst}
use Rattle.std.specs.Prelude.{Result, Ok}
use Rattle.std.specs.Result.{IsErrAnd}
use Rattle.c_types.specs.declared.kind.Measure.{Measure}
use Rattle.c_types.specs.declared.tree.Expr.{Expr}
use Rattle.c_types.specs.Forms.{set_local, store, copy}
use Rattle.cp_base.specs.declared.op.Kind.{Kind}
use Rattle.c_typing.specs.Types.{CType, struct, is_struct, Layout, size_of, align_of}
use Rattle.c_typing.specs.Places.{Node, kid}
use Rattle.c_typing.specs.Judgements as rules
use Rattle.c_typing.specs.Judgements.{Fault, Judgement, layouts, expresses}
use Rattle.c_typing.specs.Rules.{broken_if, bad_conversion}
use Rattle.c_typing.specs.Conversions.{result, access_of, converted_to, is_assignable_by, is_null}
use Rattle.c_typing.specs.Expressions.{assigned_code, assignment}
use Rattle.c_type_ids.specs.Ids.{Known}
use Rattle.c_values.specs.declared.typings.Form.{Form}
use Rattle.c_values.specs.declared.typings.Form.TheVariants as form
use Rattle.c_values.specs.declared.typings.Typing.{Typing}
use Rattle.c_values.specs.Typings.{Is, form_of}
use Rattle.c_answers.specs.declared.refusal.Refusal.{Refusal}
use Rattle.c_answers.specs.declared.refusal.Refusal.TheVariants as refusal
use Rattle.c_answers.specs.Answers.{Answers, Expresses, Allows, IsFirst}
use Rattle.c_answers.proofs.AnswerLaws.{answers_means}
use Rattle.c_operations.proofs.OperandLaws.{handed}
use Rattle.c_assignments.specs.Assignments.{assignment_faults, struct_measure}

-- ---- what may be assigned

module _ (t : CType) (y : rules.Typing) (n : ℕ) (later : List Fault) (null : Bool) (same : null ≡ is_null y.constant) where
  pub conversion_allowed : (r : Result (Unit {0}) Refusal) → is_assignable_by t y.type null ≡ true → Allows r later → Allows r (bad_conversion t y n ++ later)
  conversion_allowed r e h =
      subst (λ b. Allows r (broken_if (not b) 14 n ++ later)) (sym (ap (is_assignable_by t y.type) (sym same) ∙ e)) h

  pub conversion_refused : is_assignable_by t y.type null ≡ false → IsFirst (refusal.Broken 14 n) (bad_conversion t y n ++ later)
  conversion_refused e = (later, ap (λ b. broken_if (not b) 14 n ++ later) (ap (is_assignable_by t y.type) (sym same) ∙ e))

-- ---- code

pub of_struct : (ls : List Layout) (t : CType) (m : Measure) → is_struct t ≡ true → m ≡ record { size = size_of ls t; align = align_of ls t } → Some m ≡ struct_measure ls t
of_struct ls (struct k) m e same = ap Some same
of_struct ls t m e same = absurd (cc e)

pub of_other : (ls : List Layout) (t : CType) → is_struct t ≡ false → None ≡ struct_measure ls t
of_other ls (struct k) e = absurd (cc e)
of_other ls t e = refl

module _ (ls : List Layout) (x y : rules.Typing) (v : Expr) where
  pub to_local : (F : Form) (k : ℕ) → struct_measure ls x.type ≡ None → F ≡ form.InLocal k → form_of F ≡ x.form → v ≡ converted_to x.type y
      → set_local k v ≡ assigned_code ls x y x.type x.form
  to_local F k none is same value =
      subst (λ f. set_local k v ≡ assigned_code ls x y x.type f) (sym (ap (λ g. form_of g) is) ∙ same) (by x.type none value)
    where
      by : (t : CType) → struct_measure ls t ≡ None → v ≡ converted_to t y → set_local k v ≡ assigned_code ls x y t (rules.in_local k)
      by (struct n) none value = absurd (cc none)
      by t none value = ap (λ e. set_local k e) value

  pub to_memory : (F : Form) (a : Kind) (at : Expr) → struct_measure ls x.type ≡ None → ((k : ℕ) → F ≢ form.InLocal k) → form_of F ≡ x.form → a ≡ access_of x.type → at ≡ x.code
      → v ≡ converted_to x.type y → store a at v ≡ assigned_code ls x y x.type x.form
  to_memory F a at none apart same access place value =
      subst (λ f. store a at v ≡ assigned_code ls x y x.type f) same (by x.type F none apart access value)
    where
      by : (t : CType) (F : Form) → struct_measure ls t ≡ None → ((k : ℕ) → F ≢ form.InLocal k) → a ≡ access_of t → v ≡ converted_to t y
          → store a at v ≡ assigned_code ls x y t (form_of F)
      by (struct n) F none apart access value = absurd (cc none)
      by t (form.InLocal k) none apart access value = absurd (apart k refl)
      by t F none apart access value = ap₂ (λ b p. store b p v) access place ∙ ap (λ e. store (access_of t) x.code e) value

pub copied : (ls : List Layout) (x y : rules.Typing) (m : Measure) (to from : Expr) → Some m ≡ struct_measure ls x.type → to ≡ x.code → from ≡ y.code
    → copy m.size m.align to from ≡ assigned_code ls x y x.type x.form
copied ls x y m to from found left right = by x.type refl found
  where
    by : (t : CType) → x.type ≡ t → Some m ≡ struct_measure ls t → copy m.size m.align to from ≡ assigned_code ls x y t x.form
    by (struct k) e found =
        let same : m ≡ record { size = size_of ls (struct k); align = align_of ls (struct k) } = cc found in
        ap₂ (λ a b. copy m.size m.align a b) left right ∙ ap (λ (q : Measure). copy q.size q.align x.code y.code) same
        ∙ ap (λ t. copy (size_of ls t) (align_of ls t) x.code y.code) (sym e)
    by t e found = absurd (cc found)

-- ---- the answer

module _ (k : Known) (js : List Judgement) (n : Node) (at right : ℕ) (x y : rules.Typing) (same : n.id ≡ at) (kid_is : kid n 1 ≡ right) where
  abbrev pub Whole : rules.Typing
  Whole = result x.type (assigned_code (layouts js) x y x.type x.form) rules.no_constant

  pub assignment_allowed : (v : Typing) → assignment_faults (layouts js) x y at right ≡ [] → Is k v Whole → Answers (Expresses k 0) (Ok v) (assignment js n x y)
  unfolding assignment
  assignment_allowed v none is =
      answers_means (Expresses k 0) v (assignment_faults (layouts js) x y n.id (kid n 1)) (expresses Whole 0)
      (ap₂ (λ a r. assignment_faults (layouts js) x y a r) same kid_is ∙ none) (is, refl)

  pub assignment_refused : (r : Result Typing Refusal) (refused : Refusal) → IsErrAnd r (λ e. e ≡ refused) → IsFirst refused (assignment_faults (layouts js) x y at right)
      → Answers (Expresses k 0) r (assignment js n x y)
  unfolding assignment
  assignment_refused r refused is first =
      handed k 0 r (assignment_faults (layouts js) x y n.id (kid n 1)) refused (expresses Whole 0) is
      (subst (λ fs. IsFirst refused fs) (sym (ap₂ (λ a r. assignment_faults (layouts js) x y a r) same kid_is)) first)
