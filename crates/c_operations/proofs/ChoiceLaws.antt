-- Conditions, and the operators `?:` and `,`.
use Rattle.std.proofs.Common.{◌≡◌, ◌&&◌, ◌||◌, ℕ, Bool, true, false, List, [], Some, None, refl, sym, ap, ◌∙◌, subst}
use Rattle.std.specs.Prelude.{Result, Ok, unwrap_or, if◌then◌else◌}
use Rattle.std.specs.Option.{is_some}
use Rattle.std.specs.Result.{IsErrAnd}
use Rattle.std.proofs.lemmas.Bool.{false≢true}
use Rattle.c_types.specs.Forms.{choose, seq}
use Rattle.c_typing.specs.Types.{IntegerType, CType, integer, void, struct, common, same, is_void, is_struct, is_pointer, Layout}
use Rattle.c_typing.specs.Places.{Node}
use Rattle.c_typing.specs.Judgements as rules
use Rattle.c_typing.specs.Judgements.{Judgement, Fault, means, breaks_rules, waits, expresses, layouts, besides, faults_in}
use Rattle.c_typing.specs.Rules.{bad_operand}
use Rattle.c_typing.specs.Constants.{chosen_constant}
use Rattle.c_typing.specs.Conversions.{result, is_null, points_to_void, are_comparable, pointer_choice, choice_by, choice_type}
use Rattle.c_typing.specs.Expressions.{comma, conditional}
use Rattle.c_type_ids.specs.Ids.{Known}
use Rattle.c_values.specs.declared.typings.Typing.{Typing}
use Rattle.c_values.specs.Typings.{Is}
use Rattle.c_answers.specs.declared.refusal.Refusal.{Refusal}
use Rattle.c_answers.specs.Answers.{Answers, Expresses, IsFirst}
use Rattle.c_answers.proofs.AnswerLaws.{answers_means}
use Rattle.c_operations.specs.Operations.{common_integer, compared, of_pointers}
use Rattle.c_operations.proofs.OperandLaws.{handed}

-- ---- the type of the result

pub of_integers : (ls : List Layout) (x y : rules.Typing) (k : IntegerType) → Some k ≡ common_integer x.type y.type → choice_type ls x y ≡ Some (integer k)
of_integers ls x y k e = by x.type y.type e
  where
    by : (t u : CType) → Some k ≡ common_integer t u → choice_by ls t u x y ≡ Some (integer k)
    by (integer a) (integer b) e =
        let same : k ≡ common a b = cc e in
        sym (ap (λ i. Some (integer i)) same)
    by t u e = absurd (cc e)

pub alike : (ls : List Layout) (x y : rules.Typing) → ((is_void x.type || is_struct x.type) && same x.type y.type) ≡ true → choice_type ls x y ≡ Some x.type
alike ls x y e = by x.type y.type e
  where
    by : (t u : CType) → ((is_void t || is_struct t) && same t u) ≡ true → choice_by ls t u x y ≡ Some t
    by void void e = refl
    by void u e = absurd (false≢true e)
    by (struct k) (struct l) e = ap (λ b. if b then Some (struct k) else None) e
    by (struct k) u e = absurd (false≢true e)
    by t u e = absurd (false≢true e)

-- what are no pointers are not compared
no_pointers : (x y : rules.Typing) → is_pointer x.type ≡ false → is_pointer y.type ≡ false → are_comparable x y ≡ false
no_pointers x y e f = by (is_pointer x.type) (is_pointer y.type) (same x.type y.type || points_to_void x.type || points_to_void y.type) (is_null y.constant) (is_null x.constant) e f
  where
    by : (p q s m n : Bool) → p ≡ false → q ≡ false → ((p && q && s) || (p && m) || (n && q)) ≡ false
    by false false s m true e f = refl
    by false false s m false e f = refl
    by true q s m n e f = absurd (false≢true (sym e))
    by false true s m n e f = absurd (false≢true (sym f))

pub others : (ls : List Layout) (x y : rules.Typing) → common_integer x.type y.type ≡ None → ((is_void x.type || is_struct x.type) && same x.type y.type) ≡ false
    → compared ls x y ≡ choice_type ls x y
others ls x y none apart = by x.type y.type refl refl none apart
  where
    by : (t u : CType) → x.type ≡ t → y.type ≡ u → common_integer t u ≡ None → ((is_void t || is_struct t) && same t u) ≡ false
        → (if are_comparable x y then Some (if is_pointer t then (if is_pointer u then pointer_choice ls x y else t) else u) else None) ≡ choice_by ls t u x y
    by (integer a) (integer b) h i none apart = absurd (cc none)
    by void void h i none apart = absurd (false≢true (sym apart))
    by (struct k) (struct l) h i none apart =
        ap (λ b. if b then Some (struct l) else None) (no_pointers x y (ap is_pointer h) (ap is_pointer i)) ∙ sym (ap (λ b. if b then Some (struct k) else None) apart)
    by t u h i none apart = refl

-- where they are compared
pub compared_is : (ls : List Layout) (x y : rules.Typing) (t : CType) → are_comparable x y ≡ true → t ≡ of_pointers ls x y → Some t ≡ compared ls x y
compared_is ls x y t e f = ap Some f ∙ sym (ap (λ b. if b then Some (of_pointers ls x y) else None) e)

-- ---- `,`

pub comma_is : (k : Known) (v : Typing) (x y : rules.Typing) → Is k v (result y.type (seq x.code y.code) rules.no_constant) → Answers (Expresses k 0) (Ok v) (comma x y)
unfolding comma
comma_is k v x y is = (is, refl)

-- ---- `?:`

module _ (k : Known) (js : List Judgement) (n : Node) (at : ℕ) (c x y : rules.Typing) (at_node : n.id ≡ at) where
  abbrev pub Value : rules.Typing
  Value = result (unwrap_or (choice_type (layouts js) x y) x.type) (choose c.code x.code y.code) (chosen_constant c.constant x.constant y.constant)

  pub choice_allowed : (v : Typing) → bad_operand (is_some (choice_type (layouts js) x y)) at ≡ [] → Is k v Value → Answers (Expresses k 0) (Ok v) (conditional js n c x y)
  unfolding conditional
  choice_allowed v none is =
      answers_means (Expresses k 0) v (bad_operand (is_some (choice_type (layouts js) x y)) n.id) (expresses Value 0)
      (ap (bad_operand (is_some (choice_type (layouts js) x y))) at_node ∙ none) (is, refl)

  pub choice_refused : (r : Result Typing Refusal) (refused : Refusal) → IsErrAnd r (λ e. e ≡ refused) → IsFirst refused (bad_operand (is_some (choice_type (layouts js) x y)) at)
      → Answers (Expresses k 0) r (conditional js n c x y)
  unfolding conditional
  choice_refused r refused is first =
      handed k 0 r (bad_operand (is_some (choice_type (layouts js) x y)) n.id) refused (expresses Value 0) is
      (subst (λ m. IsFirst refused (bad_operand (is_some (choice_type (layouts js) x y)) m)) (sym at_node) first)

-- a condition that is scalar, and one that is not
pub besides_none : (k : Known) (h : ℕ) (r : Result Typing Refusal) (faults : List Fault) (j : Judgement) → faults ≡ [] → Answers (Expresses k h) r j
    → Answers (Expresses k h) r (besides faults j)
besides_none k h r faults j none is = subst (λ fs. Answers (Expresses k h) r (besides fs j)) (sym none) is
