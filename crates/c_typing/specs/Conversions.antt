-- Conversions, and the operators with their operands. C99 6.3, 6.5, 6.5.16.1; the lists are this profile's.
use Rattle.std.specs.Prelude.{ℕ, Bool, true, false, List, [], ◌∷◌, ◌&&◌, ◌||◌, ◌==◌, if◌then◌else◌, Option, Some, None, find, codes}
use Rattle.std.specs.Str.{bytes_eq}
use Rattle.cp_base.specs.declared.op.Kind.{Kind}
use Rattle.cp_base.specs.declared.op.Kind.TheVariants as access
use Rattle.cp_base.specs.declared.op.To.{To}
use Rattle.cp_base.specs.Operations.{converted}
use Rattle.c_types.specs.declared.tree.COp.{COp}
use Rattle.c_types.specs.declared.tree.COp.TheVariants as op
use Rattle.c_types.specs.declared.tree.Expr.{Expr}
use Rattle.c_types.specs.Forms.{const, load, binary, convert}
use Rattle.c_typing.specs.Types.{IntegerType, int, CType, void, integer, pointer, array, unsized, struct, same, traits_of, promoted, common, is_integer, is_pointer, is_scalar, is_void, integer_of, Layout, has_size, size_of}
use Rattle.c_typing.specs.Judgements.{Form, value, in_local, in_memory, temporary, Constant, no_constant, number, null_pointer, address_of, place_at, Typing}

-- ---- values (6.3.2.1): an lvalue is read; an array is a pointer to its first element; a struct stays at its place

abbrev pub valued : CType → Expr → Constant → Typing
valued t e c = record { type = t; form = value; code = e; constant = c }

abbrev pub access_of : CType → Kind
access_of (integer k) = (traits_of k).access
access_of t = access.W32

-- the name of a static array, or a string literal, is an address constant
abbrev pub address_in : Constant → Constant
address_in (place_at o a true) = address_of o a
address_in c = no_constant

abbrev pub read_by : CType → Typing → Typing
read_by (array t n) x = valued (pointer t) x.code (address_in x.constant)
read_by (unsized t) x = valued (pointer t) x.code (address_in x.constant)
read_by (struct k) x = record x { form = temporary; constant = no_constant }
read_by t x = valued t (load (access_of t) x.code) no_constant

abbrev pub value_by : Form → Typing → Typing
value_by (in_local k) x = valued x.type x.code no_constant
value_by in_memory x = read_by x.type x
value_by temporary x = read_by x.type x
value_by form x = x

abbrev pub value_of : Typing → Typing
value_of x = value_by x.form x

-- the value of an expression of this type: of a struct, its place
abbrev pub result_form : CType → Form
result_form (struct k) = temporary
result_form t = value

abbrev pub result : CType → Expr → Constant → Typing
result t e c = record { type = t; form = result_form t; code = e; constant = c }

-- ---- conversions of a value to a type (6.3.1.2, 6.3.1.3): to a narrow type, from another one

abbrev pub narrowed : Option To → Expr → Expr
narrowed None e = e
narrowed (Some to) e = convert to e

abbrev pub converted_code : CType → CType → Expr → Expr
converted_code from (integer k) e = if same from (integer k) then e else narrowed (traits_of k).narrowing e
converted_code from t e = e

abbrev pub converted_by : Option To → ℕ → ℕ
converted_by None w = w
converted_by (Some to) w = converted to w

abbrev pub converted_word : CType → ℕ → ℕ
converted_word (integer k) w = converted_by (traits_of k).narrowing w
converted_word t w = w

abbrev pub converted_to : CType → Typing → Expr
converted_to t x = converted_code x.type t x.code

-- ---- pointers

-- a null pointer constant: a constant of value 0, or such a one cast to `void *` (6.3.2.3, 3)
abbrev pub is_null : Constant → Bool
is_null (number w) = w == 0
is_null null_pointer = true
is_null c = false

abbrev pub points_to_void : CType → Bool
points_to_void (pointer void) = true
points_to_void t = false

-- 6.5.9, 2: two pointers to one type, a pointer and a null pointer constant, a pointer and a `void *`
abbrev pub are_comparable : Typing → Typing → Bool
are_comparable x y =
    (is_pointer x.type && is_pointer y.type && (same x.type y.type || points_to_void x.type || points_to_void y.type))
    || (is_pointer x.type && is_null y.constant) || (is_null x.constant && is_pointer y.type)

-- 6.5.16.1, 1: a value may be assigned to an object of this type
abbrev pub is_assignable_by : CType → CType → Bool → Bool
is_assignable_by (integer k) (integer l) null = true
is_assignable_by (integer IntegerType.bool) (pointer u) null = true
is_assignable_by (pointer t) (pointer u) null = same t u || is_void t || is_void u || null
is_assignable_by (pointer t) u null = null
is_assignable_by (struct k) (struct l) null = k == l
is_assignable_by t u null = false

abbrev pub is_assignable : CType → Typing → Bool
is_assignable t x = is_assignable_by t x.type (is_null x.constant)

-- a cast goes from any type to `void`, or from a scalar to a scalar type (6.5.4, 2)
abbrev pub is_castable : CType → CType → Bool
is_castable void from = true
is_castable t from = is_scalar t && is_scalar from

-- ---- operators of two operands

pub data Class : Type 0 where
  multiplicative additive subtractive shift relational equality bitwise and_then or_else : Class

pub record Operator : Type 0 where
  pub text : List ℕ
  pub class : Class
  -- with operands that have a sign, and without; `&&` and `||` have forms of their own
  pub signed : COp
  pub unsigned : COp

abbrev pub operator : List ℕ → Class → COp → COp → Operator
operator text class signed unsigned = record { text = text; class = class; signed = signed; unsigned = unsigned }

abbrev pub operators : List Operator
operators =
    operator (codes "*") multiplicative op.MulS op.MulU ∷
    operator (codes "/") multiplicative op.DivS op.DivU ∷
    operator (codes "%") multiplicative op.RemS op.RemU ∷
    operator (codes "+") additive op.AddS op.AddU ∷
    operator (codes "-") subtractive op.SubS op.SubU ∷
    operator (codes "<<") shift op.ShlS op.ShlU ∷
    operator (codes ">>") shift op.ShrS op.ShrU ∷
    operator (codes "<") relational op.LtS op.LtU ∷
    operator (codes ">") relational op.GtS op.GtU ∷
    operator (codes "<=") relational op.LeS op.LeU ∷
    operator (codes ">=") relational op.GeS op.GeU ∷
    operator (codes "==") equality op.Eq op.Eq ∷
    operator (codes "!=") equality op.Ne op.Ne ∷
    operator (codes "&") bitwise op.And op.And ∷
    operator (codes "^") bitwise op.Xor op.Xor ∷
    operator (codes "|") bitwise op.Or op.Or ∷
    operator (codes "&&") and_then op.And op.And ∷
    operator (codes "||") or_else op.Or op.Or ∷ []

abbrev pub operator_of : List ℕ → Option Operator
operator_of text = find (λ o. bytes_eq o.text text) operators

-- the type of the result, where the operands are allowed: one line a class and pair of operands
module _ (ls : List Layout) where
  abbrev pub sum_type : CType → CType → Option CType
  sum_type (integer a) (integer b) = Some (integer (common a b))
  sum_type (pointer t) (integer b) = if has_size ls t then Some (pointer t) else None
  sum_type (integer a) (pointer t) = if has_size ls t then Some (pointer t) else None
  sum_type t u = None

  abbrev pub difference_type : CType → CType → Option CType
  difference_type (integer a) (integer b) = Some (integer (common a b))
  difference_type (pointer t) (integer b) = if has_size ls t then Some (pointer t) else None
  difference_type (pointer t) (pointer u) = if same t u && has_size ls t then Some (integer int) else None
  difference_type t u = None

  abbrev pub common_type : CType → CType → Option CType
  common_type (integer a) (integer b) = Some (integer (common a b))
  common_type t u = None

  abbrev pub shift_type : CType → CType → Option CType
  shift_type (integer a) (integer b) = Some (integer (promoted a))
  shift_type t u = None

  abbrev pub truth : Bool → Option CType
  truth allowed = if allowed then Some (integer int) else None

  abbrev pub result_type : Class → Typing → Typing → Option CType
  result_type multiplicative x y = common_type x.type y.type
  result_type bitwise x y = common_type x.type y.type
  result_type additive x y = sum_type x.type y.type
  result_type subtractive x y = difference_type x.type y.type
  result_type shift x y = shift_type x.type y.type
  result_type relational x y = truth ((is_integer x.type && is_integer y.type) || (is_pointer x.type && same x.type y.type))
  result_type equality x y = truth ((is_integer x.type && is_integer y.type) || are_comparable x y)
  result_type and_then x y = truth (is_scalar x.type && is_scalar y.type)
  result_type or_else x y = truth (is_scalar x.type && is_scalar y.type)

  -- the types of two operands of `?:`, and that of its result (6.5.15, 3 to 6)
  abbrev pub pointer_choice : Typing → Typing → CType
  pointer_choice x y =
      if is_null y.constant then x.type else if is_null x.constant then y.type else
      if points_to_void x.type then x.type else y.type

  abbrev pub choice_by : CType → CType → Typing → Typing → Option CType
  choice_by (integer a) (integer b) x y = Some (integer (common a b))
  choice_by void void x y = Some void
  choice_by (struct k) (struct l) x y = if k == l then Some (struct k) else None
  choice_by t u x y = if are_comparable x y then Some (if is_pointer t then (if is_pointer u then pointer_choice x y else t) else u) else None

  abbrev pub choice_type : Typing → Typing → Option CType
  choice_type x y = choice_by x.type y.type x y

  -- ---- code of operators

  -- an index, in bytes (6.5.6, 8)
  abbrev pub scaled : CType → Expr → Expr
  scaled t e = binary op.MulU e (const (size_of ls t))

  abbrev pub signs : IntegerType → Operator → COp
  signs k o = if (traits_of k).is_signed then o.signed else o.unsigned

  -- with operands of these types, of which pointers have no sign
  abbrev pub plain_code : CType → CType → Operator → Expr → Expr → Expr
  plain_code (integer a) (integer b) o l r = binary (signs (common a b) o) l r
  plain_code t u o l r = binary o.unsigned l r

  abbrev pub sum_code : CType → CType → Operator → Expr → Expr → Expr
  sum_code (pointer t) u o l r = binary op.AddU l (scaled t r)
  sum_code t (pointer u) o l r = binary op.AddU (scaled u l) r
  sum_code t u o l r = plain_code t u o l r

  abbrev pub difference_code : CType → CType → Operator → Expr → Expr → Expr
  difference_code (pointer t) (pointer u) o l r = binary op.DivS (binary op.SubU l r) (const (size_of ls t))
  difference_code (pointer t) u o l r = binary op.SubU l (scaled t r)
  difference_code t u o l r = plain_code t u o l r

  abbrev pub operator_code : Class → CType → CType → Operator → Expr → Expr → Expr
  operator_code additive t u o l r = sum_code t u o l r
  operator_code subtractive t u o l r = difference_code t u o l r
  -- a shift has the type of its promoted left operand
  operator_code shift t u o l r = binary (signs (promoted (integer_of t)) o) l r
  operator_code class t u o l r = plain_code t u o l r
