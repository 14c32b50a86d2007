-- The code of operators of two operands.
use Rattle.std.proofs.Common.{◌≡◌, ◌≢◌, ℕ, [], List, Some, None, refl, sym, ap, ◌∙◌, subst}
use Rattle.c_types.specs.declared.tree.COp.TheVariants as op
use Rattle.c_types.specs.declared.tree.Expr.{Expr}
use Rattle.c_types.specs.Forms.{const, binary}
use Rattle.c_typing.specs.Types.{IntegerType, CType, integer, pointer, common, Layout, size_of}
use Rattle.c_typing.specs.Judgements as rules
use Rattle.c_typing.specs.Conversions as conversions
use Rattle.c_typing.specs.Conversions.{Operator, signs, plain_code, sum_code, difference_code, operator_code}
use Rattle.c_typing.specs.Expressions.{operator_with, binary_code}
use Rattle.c_values.specs.declared.operators.Class.{Class}
use Rattle.c_values.specs.declared.operators.Class.TheVariants as class
use Rattle.c_values.specs.Operators.{class_of}
use Rattle.c_operations.specs.Operations.{target_size, common_integer, plain_operator}

-- ---- operators on words

pub of_integers : (o : Operator) (t u : CType) (k : IntegerType) → Some k ≡ common_integer t u → signs [] k o ≡ plain_operator o t u
of_integers o (integer a) (integer b) k e =
    let same : k ≡ common a b = cc e in
    ap (λ i. signs [] i o) same
of_integers o t u k e = absurd (cc e)

pub of_others : (o : Operator) (t u : CType) → None ≡ common_integer t u → o.unsigned ≡ plain_operator o t u
of_others o (integer a) (integer b) e = absurd (cc e)
of_others o t u e = refl

pub with_plain : (o : Operator) (q : conversions.Class) (t u : CType) → q ≢ conversions.shift → operator_with o q t u ≡ plain_operator o t u
with_plain o conversions.shift t u apart = absurd (apart refl)
with_plain o q (integer a) (integer b) apart = refl
with_plain o q t u apart = refl

-- ---- code

pub plain_is : (ls : List Layout) (t u : CType) (o : Operator) (l r : Expr) → binary (plain_operator o t u) l r ≡ plain_code ls t u o l r
plain_is ls (integer a) (integer b) o l r = refl
plain_is ls t u o l r = refl

module _ (ls : List Layout) (o : Operator) (l r : Expr) where
  pub sum_left : (t u : CType) (size : ℕ) (bytes : Expr) → bytes ≡ binary op.MulU r (const size) → Some size ≡ target_size ls t → binary op.AddU l bytes ≡ sum_code ls t u o l r
  sum_left (pointer t) u size bytes is e =
      let same : size ≡ size_of ls t = cc e in
      ap (λ b. binary op.AddU l b) is ∙ ap (λ s. binary op.AddU l (binary op.MulU r (const s))) same
  sum_left t u size bytes is e = absurd (cc e)

  pub sum_right : (t u : CType) (size : ℕ) (bytes : Expr) → bytes ≡ binary op.MulU l (const size) → None ≡ target_size ls t → Some size ≡ target_size ls u
      → binary op.AddU bytes r ≡ sum_code ls t u o l r
  sum_right (pointer t) u size bytes is none e = absurd (cc none)
  sum_right t (pointer u) size bytes is none e =
      let same : size ≡ size_of ls u = cc e in
      ap (λ b. binary op.AddU b r) is ∙ ap (λ s. binary op.AddU (binary op.MulU l (const s)) r) same
  sum_right t u size bytes is none e = absurd (cc e)

  pub sum_plain : (t u : CType) → None ≡ target_size ls t → None ≡ target_size ls u → binary (plain_operator o t u) l r ≡ sum_code ls t u o l r
  sum_plain (pointer t) u none nor = absurd (cc none)
  sum_plain t (pointer u) none nor = absurd (cc nor)
  sum_plain t u none nor = plain_is ls t u o l r

  pub difference_both : (t u : CType) (size other : ℕ) (bytes : Expr) → bytes ≡ binary op.SubU l r → Some size ≡ target_size ls t → Some other ≡ target_size ls u
      → binary op.DivS bytes (const size) ≡ difference_code ls t u o l r
  difference_both (pointer t) (pointer u) size other bytes is e f =
      let same : size ≡ size_of ls t = cc e in
      ap (λ b. binary op.DivS b (const size)) is ∙ ap (λ s. binary op.DivS (binary op.SubU l r) (const s)) same
  difference_both (pointer t) u size other bytes is e f = absurd (cc f)
  difference_both t u size other bytes is e f = absurd (cc e)

  pub difference_left : (t u : CType) (size : ℕ) (bytes : Expr) → bytes ≡ binary op.MulU r (const size) → Some size ≡ target_size ls t → None ≡ target_size ls u
      → binary op.SubU l bytes ≡ difference_code ls t u o l r
  difference_left (pointer t) (pointer u) size bytes is e none = absurd (cc none)
  difference_left (pointer t) u size bytes is e none =
      let same : size ≡ size_of ls t = cc e in
      ap (λ b. binary op.SubU l b) is ∙ ap (λ s. binary op.SubU l (binary op.MulU r (const s))) same
  difference_left t u size bytes is e none = absurd (cc e)

  pub difference_plain : (t u : CType) → None ≡ target_size ls t → binary (plain_operator o t u) l r ≡ difference_code ls t u o l r
  difference_plain (pointer t) u none = absurd (cc none)
  difference_plain t u none = plain_is ls t u o l r

-- ---- by the class of the operator

other_code : (ls : List Layout) (q : Class) (t u : CType) (o : Operator) (l r : Expr) → q ≢ class.Additive → q ≢ class.Subtractive → q ≢ class.Shift
    → operator_code ls (class_of q) t u o l r ≡ plain_code ls t u o l r
other_code ls class.Additive t u o l r a b c = absurd (a refl)
other_code ls class.Subtractive t u o l r a b c = absurd (b refl)
other_code ls class.Shift t u o l r a b c = absurd (c refl)
other_code ls q t u o l r a b c = refl

pub by_class : (ls : List Layout) (q : Class) (t u : CType) (o : Operator) (l r : Expr) → q ≢ class.Additive → q ≢ class.Subtractive → q ≢ class.Shift → class_of q ≡ o.class
    → binary (plain_operator o t u) l r ≡ operator_code ls o.class t u o l r
by_class ls q t u o l r a b c same =
    plain_is ls t u o l r ∙ sym (other_code ls q t u o l r a b c) ∙ ap (λ p. operator_code ls p t u o l r) same

other_binary : (ls : List Layout) (q : Class) (x y : rules.Typing) (o : Operator) → q ≢ class.AndThen → q ≢ class.OrElse
    → operator_code ls (class_of q) x.type y.type o x.code y.code ≡ binary_code ls o x y (class_of q)
other_binary ls class.AndThen x y o a b = absurd (a refl)
other_binary ls class.OrElse x y o a b = absurd (b refl)
other_binary ls q x y o a b = refl

pub binary_is : (ls : List Layout) (q : Class) (x y : rules.Typing) (o : Operator) → q ≢ class.AndThen → q ≢ class.OrElse → class_of q ≡ o.class
    → operator_code ls o.class x.type y.type o x.code y.code ≡ binary_code ls o x y o.class
binary_is ls q x y o a b same =
    subst (λ p. operator_code ls p x.type y.type o x.code y.code ≡ binary_code ls o x y p) same (other_binary ls q x y o a b)
