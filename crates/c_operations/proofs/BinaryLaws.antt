-- The operators of two operands.
use Rattle.std.proofs.Common.{◌≡◌, ℕ, List, [], refl, sym, ap, ◌∙◌, subst}
use Rattle.std.specs.Prelude.{Result, Ok, unwrap_or}
use Rattle.std.specs.Option.{is_some}
use Rattle.std.specs.Result.{IsErrAnd}
use Rattle.c_typing.specs.Types.{CType}
use Rattle.c_typing.specs.Places.{Node}
use Rattle.c_typing.specs.Judgements as rules
use Rattle.c_typing.specs.Judgements.{Judgement, Constant, layouts, expresses}
use Rattle.c_typing.specs.Rules.{bad_operand}
use Rattle.c_typing.specs.Constants.{binary_constant}
use Rattle.c_typing.specs.Conversions.{Operator, valued, result_type}
use Rattle.c_typing.specs.Expressions.{operator_with, binary_code, binary_by}
use Rattle.c_type_ids.specs.Ids.{Known}
use Rattle.c_values.specs.declared.typings.Typing.{Typing}
use Rattle.c_values.specs.Typings.{Is}
use Rattle.c_answers.specs.declared.refusal.Refusal.{Refusal}
use Rattle.c_answers.specs.Answers.{Answers, Expresses, IsFirst}
use Rattle.c_answers.proofs.AnswerLaws.{answers_means}
use Rattle.c_operations.proofs.OperandLaws.{handed}

module _ (k : Known) (js : List Judgement) (n : Node) (at : ℕ) (x y : rules.Typing) (o : Operator) (same : n.id ≡ at) where
  abbrev pub Type_of : CType
  Type_of = unwrap_or (result_type (layouts js) o.class x y) x.type

  abbrev pub Constant_at : ℕ → Constant
  Constant_at m = binary_constant (layouts js) (operator_with o o.class x.type y.type) m o.class x.type y.type x.constant y.constant

  abbrev pub Value_at : ℕ → rules.Typing
  Value_at m = valued Type_of (binary_code (layouts js) o x y o.class) (Constant_at m)

  pub binary_allowed : (v : Typing) → bad_operand (is_some (result_type (layouts js) o.class x y)) at ≡ [] → Is k v (Value_at at) → Answers (Expresses k 0) (Ok v) (binary_by js n x y o)
  unfolding binary_by
  binary_allowed v none is =
      answers_means (Expresses k 0) v (bad_operand (is_some (result_type (layouts js) o.class x y)) n.id) (expresses (Value_at n.id) 0)
      (ap (bad_operand (is_some (result_type (layouts js) o.class x y))) same ∙ none) (subst (λ m. Is k v (Value_at m)) (sym same) is, refl)

  pub binary_refused : (r : Result Typing Refusal) (refused : Refusal) → IsErrAnd r (λ e. e ≡ refused) → IsFirst refused (bad_operand (is_some (result_type (layouts js) o.class x y)) at)
      → Answers (Expresses k 0) r (binary_by js n x y o)
  unfolding binary_by
  binary_refused r refused is first =
      handed k 0 r (bad_operand (is_some (result_type (layouts js) o.class x y)) n.id) refused (expresses (Value_at n.id) 0) is
      (subst (λ m. IsFirst refused (bad_operand (is_some (result_type (layouts js) o.class x y)) m)) (sym same) first)
