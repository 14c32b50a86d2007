-- What expressions mean by their kinds and by what their operands mean.
use Rattle.std.proofs.Common.{◌≡◌, ◌≢◌, ℕ, true, false, List, Option, Some, None, refl, sym, ap, ◌∙◌}
use Rattle.std.specs.Prelude.{MatchOption, is_some, ◌&&◌}
use Rattle.std.proofs.lemmas.Bool.{false≢true}
use Rattle.c_syntax.specs.declared.kind.SynKind.TheVariants as kind
use Rattle.c_syntax.specs.declared.syntax.SynNode.{SynNode}
use Rattle.c_typing.specs.Judgements as rules
use Rattle.c_typing.specs.Judgements.{Judgement, given, means, type_at, typing_at, waits}
use Rattle.c_lexer.specs.declared.token.IntType.{IntType}
use Rattle.c_typing.specs.Types.{CType, int}
use Rattle.c_typing.specs.Conversions.{Operator, operator_of, value_of}
use Rattle.c_typing.specs.Expressions.{arrow, binary_by, binary_operator, cast, comma, dot, expression, integer_type, measured_type, number_of_type, subscript}
use Rattle.c_typing.specs.Typing.{cast_node, judged_by, with_operand, with_operands}
use Rattle.c_names.specs.Denoted.{places_in}
use Rattle.c_values.specs.declared.operators.Operator.{Operator as Told}
use Rattle.c_values.specs.Operators.{IsOperator, Same}
use Rattle.c_meanings.specs.Meanings.{judged_at, judged_to, kid_in, node_in}

-- ---- with the meanings of kids

pub known_some : {A : Type 0} (o : Option A) → is_some o ≡ true → (a : A) × (o ≡ Some a)
known_some (Some a) e = (a, refl)
known_some None e = absurd (false≢true e)

module _ (table : List SynNode) (n : ℕ) where
  abbrev pub left : Option rules.Typing
  left = typing_at (judged_to table n) (kid_in table n 0)

  abbrev pub right : Option rules.Typing
  right = typing_at (judged_to table n) (kid_in table n 1)

  pub with_two : (f : rules.Typing → rules.Typing → Judgement) (x y : rules.Typing) → left ≡ Some x → right ≡ Some y → with_operands (judged_to table n) (node_in table n) f ≡ f x y
  with_two f x y a b = ap (λ o. given o (λ u. given right (λ v. f u v))) a ∙ ap (λ o. given o (f x)) b

  pub without_two : (f : rules.Typing → rules.Typing → Judgement) → (is_some left && is_some right) ≡ false → with_operands (judged_to table n) (node_in table n) f ≡ waits
  without_two f = by left right
    where
      by : (a b : Option rules.Typing) → (is_some a && is_some b) ≡ false → given a (λ x. given b (λ y. f x y)) ≡ waits
      by None b e = refl
      by (Some x) None e = refl
      by (Some x) (Some y) e = absurd (false≢true (sym e))

  pub both_there : (is_some left && is_some right) ≡ true → (x y : rules.Typing) × (left ≡ Some x) × (right ≡ Some y)
  both_there = by left right
    where
      by : (a b : Option rules.Typing) → (is_some a && is_some b) ≡ true → (x y : rules.Typing) × (a ≡ Some x) × (b ≡ Some y)
      by None b e = absurd (false≢true e)
      by (Some x) None e = absurd (false≢true e)
      by (Some x) (Some y) e = (x, y, refl, refl)

  pub left_there : (is_some left && is_some right) ≡ true → is_some left ≡ true
  left_there e = let (x, y, a, b) = both_there e in ap is_some a

  pub right_there : (is_some left && is_some right) ≡ true → is_some right ≡ true
  right_there e = let (x, y, a, b) = both_there e in ap is_some b

  pub waits_always : (f : rules.Typing → rules.Typing → Judgement) → ((x y : rules.Typing) → f x y ≡ waits) → with_operands (judged_to table n) (node_in table n) f ≡ waits
  waits_always f h = by left right
    where
      by : (a b : Option rules.Typing) → given a (λ x. given b (λ y. f x y)) ≡ waits
      by None b = refl
      by (Some x) None = refl
      by (Some x) (Some y) = h x y

  -- ---- operators of two operands

  module _ (is : (node_in table n).label.kind ≡ kind.Binary) where
    pub binary_is : judged_at table n ≡ with_operands (judged_to table n) (node_in table n) (λ x y. binary_operator (judged_to table n) (node_in table n) (value_of x) (value_of y))
    unfolding judged_at judged_by
    binary_is = ap (judged_by (places_in table) (judged_to table n) (node_in table n)) is

    pub binary_without : operator_of (node_in table n).label.text ≡ None → judged_at table n ≡ waits
    unfolding binary_operator
    binary_without none = binary_is ∙ waits_always _ (λ x y. ap (λ o. given o (binary_by (judged_to table n) (node_in table n) (value_of x) (value_of y))) none)

    pub binary_with : (x y : rules.Typing) (o : Operator) → left ≡ Some x → right ≡ Some y → operator_of (node_in table n).label.text ≡ Some o → judged_at table n ≡ binary_by (judged_to table n) (node_in table n) (value_of x) (value_of y) o
    unfolding binary_operator
    binary_with x y o a b at = binary_is ∙ with_two _ x y a b ∙ ap (λ p. given p (binary_by (judged_to table n) (node_in table n) (value_of x) (value_of y))) at

  -- ---- with one operand

  pub with_one : (f : rules.Typing → Judgement) (x : rules.Typing) → left ≡ Some x → with_operand (judged_to table n) (node_in table n) f ≡ f x
  with_one f x a = ap (λ o. given o f) a

  pub without_one : (f : rules.Typing → Judgement) → is_some left ≡ false → with_operand (judged_to table n) (node_in table n) f ≡ waits
  without_one f = by left
    where
      by : (a : Option rules.Typing) → is_some a ≡ false → given a f ≡ waits
      by None e = refl
      by (Some x) e = absurd (false≢true (sym e))

  pub comma_is : (node_in table n).label.kind ≡ kind.Comma → judged_at table n ≡ with_operands (judged_to table n) (node_in table n) (λ x y. comma (value_of x) (value_of y))
  unfolding judged_at judged_by
  comma_is is = ap (judged_by (places_in table) (judged_to table n) (node_in table n)) is

  pub element_is : (node_in table n).label.kind ≡ kind.Index → judged_at table n ≡ with_operands (judged_to table n) (node_in table n) (subscript (judged_to table n) (node_in table n))
  unfolding judged_at judged_by
  element_is is = ap (judged_by (places_in table) (judged_to table n) (node_in table n)) is

  pub dot_is : (node_in table n).label.kind ≡ kind.Dot → judged_at table n ≡ with_operand (judged_to table n) (node_in table n) (dot (judged_to table n) (node_in table n))
  unfolding judged_at judged_by
  dot_is is = ap (judged_by (places_in table) (judged_to table n) (node_in table n)) is

  pub arrow_is : (node_in table n).label.kind ≡ kind.Arrow → judged_at table n ≡ with_operand (judged_to table n) (node_in table n) (arrow (judged_to table n) (node_in table n))
  unfolding judged_at judged_by
  arrow_is is = ap (judged_by (places_in table) (judged_to table n) (node_in table n)) is

  pub cast_is : (node_in table n).label.kind ≡ kind.Cast → judged_at table n ≡ cast_node (judged_to table n) (node_in table n)
  unfolding judged_at judged_by
  cast_is is = ap (judged_by (places_in table) (judged_to table n) (node_in table n)) is

  pub cast_without_type : (node_in table n).label.kind ≡ kind.Cast → type_at (judged_to table n) (kid_in table n 0) ≡ None → judged_at table n ≡ waits
  cast_without_type is none = cast_is is ∙ ap (λ (o : Option CType). given o (λ t. given right (λ x. cast (node_in table n) t (value_of x)))) none

  pub cast_without_value : (node_in table n).label.kind ≡ kind.Cast → (t : CType) → type_at (judged_to table n) (kid_in table n 0) ≡ Some t → right ≡ None → judged_at table n ≡ waits
  cast_without_value is t e none = cast_is is ∙ ap (λ (o : Option CType). given o (λ t. given right (λ x. cast (node_in table n) t (value_of x)))) e ∙ ap (λ o. given o (λ x. cast (node_in table n) t (value_of x))) none

  pub cast_with : (node_in table n).label.kind ≡ kind.Cast → (t : CType) (x : rules.Typing) → type_at (judged_to table n) (kid_in table n 0) ≡ Some t → right ≡ Some x → judged_at table n ≡ cast (node_in table n) t (value_of x)
  cast_with is t x e f = cast_is is ∙ ap (λ (o : Option CType). given o (λ t. given right (λ x. cast (node_in table n) t (value_of x)))) e ∙ ap (λ o. given o (λ x. cast (node_in table n) t (value_of x))) f

  pub size_expression_is : (node_in table n).label.kind ≡ kind.SizeExpr → judged_at table n ≡ with_operand (judged_to table n) (node_in table n) (λ x. measured_type (judged_to table n) x.type (kid_in table n 0))
  unfolding judged_at judged_by
  size_expression_is is = ap (judged_by (places_in table) (judged_to table n) (node_in table n)) is

  pub size_type_is : (node_in table n).label.kind ≡ kind.SizeType → judged_at table n ≡ given (type_at (judged_to table n) (kid_in table n 0)) (λ t. measured_type (judged_to table n) t (kid_in table n 0))
  unfolding judged_at judged_by
  size_type_is is = ap (judged_by (places_in table) (judged_to table n) (node_in table n)) is

  pub character_is : (node_in table n).label.kind ≡ kind.Char → judged_at table n ≡ means (expression (number_of_type int (node_in table n).label.value))
  unfolding judged_at judged_by
  character_is is = ap (judged_by (places_in table) (judged_to table n) (node_in table n)) is

  pub integer_is : (type : IntType) → (node_in table n).label.kind ≡ kind.Int type → judged_at table n ≡ means (expression (number_of_type (integer_type type) (node_in table n).label.value))
  unfolding judged_at judged_by
  integer_is type is = ap (judged_by (places_in table) (judged_to table n) (node_in table n)) is

pub no_some : {X : Type 0} {o : Option CType} (P : X → CType → Type 0) (found : Option X) → MatchOption found (o ≡ None) (λ x. (t : CType) × (o ≡ Some t) × P x t) → ((x : X) → found ≢ Some x) → o ≡ None
no_some P None h other = h
no_some P (Some x) h other = absurd (other x refl)

pub no_typing : {X : Type 0} {o : Option rules.Typing} (P : X → rules.Typing → Type 0) (found : Option X) → MatchOption found (o ≡ None) (λ x. (y : rules.Typing) × (o ≡ Some y) × P x y) → ((x : X) → found ≢ Some x) → o ≡ None
no_typing P None h other = h
no_typing P (Some x) h other = absurd (other x refl)

-- ---- what is seen of the text of an operator

pub no_operator : (found : Option Told) (o : Option Operator) → IsOperator found o → ((x : Told) → found ≢ Some x) → o ≡ None
no_operator None None h other = refl
no_operator None (Some p) h other = absurd h
no_operator (Some x) o h other = absurd (other x refl)

pub operator_there : (x : Told) (o : Option Operator) → IsOperator (Some x) o → (p : Operator) × (o ≡ Some p) × Same x p
operator_there x (Some p) h = (p, refl, h)
operator_there x None h = absurd h
