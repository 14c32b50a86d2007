-- What operators ask of the types of their operands.
use Rattle.std.specs.Prelude.{ℕ, List, [], Option, Some, None, if◌then◌else◌}
use Rattle.c_types.specs.declared.tree.COp.{COp}
use Rattle.c_typing.specs.Types.{IntegerType, CType, integer, pointer, common, is_pointer, Layout, size_of}
use Rattle.c_typing.specs.Judgements.{Typing}
use Rattle.c_typing.specs.Conversions.{Operator, signs, are_comparable, pointer_choice}

-- the size of what a pointer points to, 0 where it has none; of another type nothing
abbrev pub target_size : List Layout → CType → Option ℕ
target_size ls (pointer t) = Some (size_of ls t)
target_size ls t = None

-- an integer type
abbrev pub integer_in : CType → Option IntegerType
integer_in (integer k) = Some k
integer_in t = None

-- the type that two integers are converted to
abbrev pub common_integer : CType → CType → Option IntegerType
common_integer (integer a) (integer b) = Some (common a b)
common_integer t u = None

-- the operator on words, where it is no shift: of two integers, or of pointers, which have no sign
abbrev pub plain_operator : Operator → CType → CType → COp
plain_operator o (integer a) (integer b) = signs [] (common a b) o
plain_operator o t u = o.unsigned

-- of the operands of `?:`, where they are no integers, `void` or structs: a pointer, or none
abbrev pub of_pointers : List Layout → Typing → Typing → CType
of_pointers ls x y = if is_pointer x.type then (if is_pointer y.type then pointer_choice ls x y else x.type) else y.type

abbrev pub compared : List Layout → Typing → Typing → Option CType
compared ls x y = if are_comparable x y then Some (of_pointers ls x y) else None
