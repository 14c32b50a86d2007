-- Operators of two operands as constants.
use Rattle.std.proofs.Common.{◌≡◌, ◌≢◌, ℕ, List, Some, None, refl, sym, ap, ap₂, ◌∙◌}
use Rattle.c_types.specs.declared.tree.COp.{COp}
use Rattle.c_typing.specs.Types.{CType, pointer, Layout, size_of}
use Rattle.c_typing.specs.Judgements.{Constant}
use Rattle.c_typing.specs.Constants.{operated, moved_up, moved_down, sum_constant, difference_constant, binary_constant}
use Rattle.c_typing.specs.Conversions as conversions
use Rattle.c_typing.specs.Conversions.{Operator}
use Rattle.c_typing.specs.Expressions.{operator_with}
use Rattle.c_values.specs.declared.operators.Class.{Class}
use Rattle.c_values.specs.declared.operators.Class.TheVariants as class
use Rattle.c_values.specs.Operators.{class_of}
use Rattle.c_operations.specs.Operations.{target_size, plain_operator}
use Rattle.c_operations.proofs.CodeLaws.{with_plain}

module _ (ls : List Layout) (op : COp) (n : ℕ) (c a b x y : Constant) (left : a ≡ x) (right : b ≡ y) where
  pub up_left : (t u : CType) (size : ℕ) → c ≡ moved_up size a b → Some size ≡ target_size ls t → c ≡ sum_constant ls op n t u x y
  up_left (pointer t) u size is e =
      let same : size ≡ size_of ls t = cc e in
      is ∙ ap₂ (λ p q. moved_up size p q) left right ∙ ap (λ s. moved_up s x y) same
  up_left t u size is e = absurd (cc e)

  pub up_right : (t u : CType) (size : ℕ) → c ≡ moved_up size b a → None ≡ target_size ls t → Some size ≡ target_size ls u → c ≡ sum_constant ls op n t u x y
  up_right (pointer t) u size is none e = absurd (cc none)
  up_right t (pointer u) size is none e =
      let same : size ≡ size_of ls u = cc e in
      is ∙ ap₂ (λ p q. moved_up size p q) right left ∙ ap (λ s. moved_up s y x) same
  up_right t u size is none e = absurd (cc e)

  pub down_left : (t u : CType) (size : ℕ) → c ≡ moved_down size a b → Some size ≡ target_size ls t → c ≡ difference_constant ls op n t u x y
  down_left (pointer t) u size is e =
      let same : size ≡ size_of ls t = cc e in
      is ∙ ap₂ (λ p q. moved_down size p q) left right ∙ ap (λ s. moved_down s x y) same
  down_left t u size is e = absurd (cc e)

module _ (ls : List Layout) (op : COp) (n : ℕ) (c x y : Constant) (is : c ≡ operated op n x y) where
  pub sum_neither : (t u : CType) → None ≡ target_size ls t → None ≡ target_size ls u → c ≡ sum_constant ls op n t u x y
  sum_neither (pointer t) u none nor = absurd (cc none)
  sum_neither t (pointer u) none nor = absurd (cc nor)
  sum_neither t u none nor = is

  pub difference_neither : (t u : CType) → None ≡ target_size ls t → c ≡ difference_constant ls op n t u x y
  difference_neither (pointer t) u none = absurd (cc none)
  difference_neither t u none = is

-- ---- by the class of the operator

module _ (ls : List Layout) (o : Operator) (n : ℕ) (t u : CType) (x y : Constant) where
  abbrev Whole : conversions.Class → Constant
  Whole q = binary_constant ls (operator_with o q t u) n q t u x y

  pub of_sum : class_of class.Additive ≡ o.class → sum_constant ls (plain_operator o t u) n t u x y ≡ Whole o.class
  of_sum same = ap (λ op. sum_constant ls op n t u x y) (sym (with_plain o conversions.additive t u (λ e. absurd (cc e)))) ∙ ap (λ q. Whole q) same

  pub of_difference : class_of class.Subtractive ≡ o.class → difference_constant ls (plain_operator o t u) n t u x y ≡ Whole o.class
  of_difference same = ap (λ op. difference_constant ls op n t u x y) (sym (with_plain o conversions.subtractive t u (λ e. absurd (cc e)))) ∙ ap (λ q. Whole q) same

  plainly : (q : conversions.Class) → q ≢ conversions.shift → operated (plain_operator o t u) n x y ≡ operated (operator_with o q t u) n x y
  plainly q apart = ap (λ op. operated op n x y) (sym (with_plain o q t u apart))

  other_class : (q : Class) → q ≢ class.Additive → q ≢ class.Subtractive → q ≢ class.Shift → q ≢ class.AndThen → q ≢ class.OrElse
      → operated (plain_operator o t u) n x y ≡ Whole (class_of q)
  other_class class.Multiplicative a b c d e = plainly conversions.multiplicative (λ e. absurd (cc e))
  other_class class.Relational a b c d e = plainly conversions.relational (λ e. absurd (cc e))
  other_class class.Equality a b c d e = plainly conversions.equality (λ e. absurd (cc e))
  other_class class.Bitwise a b c d e = plainly conversions.bitwise (λ e. absurd (cc e))
  other_class class.Additive a b c d e = absurd (a refl)
  other_class class.Subtractive a b c d e = absurd (b refl)
  other_class class.Shift a b c d e = absurd (c refl)
  other_class class.AndThen a b c d e = absurd (d refl)
  other_class class.OrElse a b c d e = absurd (e refl)

  pub of_others : (q : Class) → q ≢ class.Additive → q ≢ class.Subtractive → q ≢ class.Shift → q ≢ class.AndThen → q ≢ class.OrElse → class_of q ≡ o.class
      → operated (plain_operator o t u) n x y ≡ Whole o.class
  of_others q a b c d e same = other_class q a b c d e ∙ ap (λ p. Whole p) same
