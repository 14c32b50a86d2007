-- Operators as the code has them, and as the rules do.
use Rattle.std.specs.Prelude.{◌≡◌, Option, Some, None}
use Rattle.c_typing.specs.Types.{CType, integer}
use Rattle.c_typing.specs.Conversions as rules
use Rattle.c_typing.specs.Judgements.{Typing}
use Rattle.c_type_ids.specs.Integers.{integer_of}
use Rattle.c_type_ids.specs.Ids.{Known}
use Rattle.c_constants.specs.Constants.{constant_of}
use Rattle.c_values.specs.Typings.{IsType}
use Rattle.c_values.specs.declared.operators.Operand.{Operand}
use Rattle.c_values.specs.declared.operators.Class.{Class}
use Rattle.c_values.specs.declared.operators.Class.TheVariants as class
use Rattle.c_values.specs.declared.operators.Operator.{Operator}
use Rattle.c_values.specs.declared.operators.ResultType.{ResultType}
use Rattle.c_values.specs.declared.operators.ResultType.TheVariants as result

abbrev pub class_of : Class → rules.Class
class_of class.Multiplicative = rules.multiplicative
class_of class.Additive = rules.additive
class_of class.Subtractive = rules.subtractive
class_of class.Shift = rules.shift
class_of class.Relational = rules.relational
class_of class.Equality = rules.equality
class_of class.Bitwise = rules.bitwise
class_of class.AndThen = rules.and_then
class_of class.OrElse = rules.or_else

-- they are this operator of the rules, its text aside
pub record Same (o : Operator) (p : rules.Operator) : Type 0 where
  pub class : class_of o.class ≡ p.class
  pub signed : o.signed ≡ p.signed
  pub unsigned : o.unsigned ≡ p.unsigned

abbrev pub IsOperator : Option Operator → Option rules.Operator → Type 0
IsOperator None None = Unit {0}
IsOperator (Some o) (Some p) = Same o p
IsOperator o p = ⊥

-- the type of a result, where the operands have these types
abbrev pub ResultIs : ResultType → Option CType → CType → CType → Type 0
ResultIs result.None r t u = r ≡ None
ResultIs (result.Integer i) r t u = r ≡ Some (integer (integer_of i))
ResultIs result.Left r t u = r ≡ Some t
ResultIs result.Right r t u = r ≡ Some u

abbrev pub none : ResultType
none = result.None

-- it is the operand of this expression
pub record IsOperand (k : Known) (o : Operand) (x : Typing) : Type 0 where
  pub type : IsType k o.kind x.type
  pub constant : constant_of o.constant ≡ x.constant
