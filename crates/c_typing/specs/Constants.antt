-- Constant expressions. C99 6.6; which are formed is this profile's list.
use Rattle.std.specs.Prelude.{ℕ, ◌+◌, ◌*◌, ◌-◌, ◌%◌, ◌^◌, List, false, ◌==◌, if◌then◌else◌, Option, Some, None}
use Rattle.c_types.specs.declared.tree.COp.{COp}
use Rattle.c_types.specs.Operators.{c_operator}
use Rattle.c_typing.specs.Types.{CType, integer, pointer, Layout, size_of}
use Rattle.c_typing.specs.Judgements.{Constant, no_constant, undefined, number, null_pointer, zero_pointer, address_of, undefined_address, place_at}
use Rattle.c_typing.specs.Conversions.{Class, additive, subtractive, and_then, or_else, points_to_void, converted_word}
use Rattle.c_typing.specs.Rules.{is_constant}

-- the value at this node, where it is defined
abbrev pub evaluated : ℕ → Option ℕ → Constant
evaluated n None = undefined n
evaluated n (Some w) = number w

-- of integer constants; an operand without a value comes first
abbrev pub operated : COp → ℕ → Constant → Constant → Constant
operated op n (number a) (number b) = evaluated n (c_operator op a b)
operated op n (undefined k) y = if is_constant y then undefined k else no_constant
operated op n x (undefined k) = if is_constant x then undefined k else no_constant
operated op n x y = no_constant

abbrev pub where_formed : Constant → Constant → Constant
where_formed x c = if is_constant x then c else no_constant

-- 1 for what is not 0, else 0
abbrev pub truth_of : Constant → Constant
truth_of (number w) = number (if w == 0 then 0 else 1)
truth_of (undefined k) = undefined k
truth_of c = no_constant

-- 6.5.13, 6.5.14: the right operand is evaluated only where the left one does not decide
abbrev pub both_constant : Constant → Constant → Constant
both_constant (number w) y = if w == 0 then where_formed y (number 0) else truth_of y
both_constant (undefined k) y = where_formed y (undefined k)
both_constant x y = no_constant

abbrev pub either_constant : Constant → Constant → Constant
either_constant (number w) y = if w == 0 then truth_of y else where_formed y (number 1)
either_constant (undefined k) y = where_formed y (undefined k)
either_constant x y = no_constant

-- 6.5.15: one of the two is evaluated
abbrev pub chosen_constant : Constant → Constant → Constant → Constant
chosen_constant (number w) x y = where_formed x (where_formed y (if w == 0 then y else x))
chosen_constant (undefined k) x y = where_formed x (where_formed y (undefined k))
chosen_constant c x y = no_constant

-- an address constant and a constant of elements (6.6, 9)
abbrev pub moved_up : ℕ → Constant → Constant → Constant
moved_up size (address_of o a) (number w) = address_of o ((a + w * size) % 2 ^ 32)
moved_up size (address_of o a) (undefined k) = undefined_address k
moved_up size (undefined_address k) y = where_formed y (undefined_address k)
moved_up size x y = no_constant

abbrev pub moved_down : ℕ → Constant → Constant → Constant
moved_down size (address_of o a) (number w) = address_of o ((a + (2 ^ 32 - w * size % 2 ^ 32)) % 2 ^ 32)
moved_down size (address_of o a) (undefined k) = undefined_address k
moved_down size (undefined_address k) y = where_formed y (undefined_address k)
moved_down size x y = no_constant

module _ (ls : List Layout) (op : COp) (n : ℕ) where
  abbrev pub sum_constant : CType → CType → Constant → Constant → Constant
  sum_constant (pointer t) u x y = moved_up (size_of ls t) x y
  sum_constant t (pointer u) x y = moved_up (size_of ls u) y x
  sum_constant t u x y = operated op n x y

  abbrev pub difference_constant : CType → CType → Constant → Constant → Constant
  difference_constant (pointer t) u x y = moved_down (size_of ls t) x y
  difference_constant t u x y = operated op n x y

  abbrev pub binary_constant : Class → CType → CType → Constant → Constant → Constant
  binary_constant additive t u x y = sum_constant t u x y
  binary_constant subtractive t u x y = difference_constant t u x y
  binary_constant and_then t u x y = both_constant x y
  binary_constant or_else t u x y = either_constant x y
  binary_constant class t u x y = operated op n x y

-- casts to integer types, of integer constants; to pointer types, of null pointer constants, null pointers and address constants
abbrev pub pointer_cast : CType → Constant → Constant
pointer_cast t (number w) = if w == 0 then (if points_to_void t then null_pointer else zero_pointer) else no_constant
pointer_cast t null_pointer = zero_pointer
pointer_cast t zero_pointer = zero_pointer
pointer_cast t (address_of o a) = address_of o a
pointer_cast t (undefined_address k) = undefined_address k
pointer_cast t c = no_constant

abbrev pub integer_cast : CType → Constant → Constant
integer_cast t (number w) = number (converted_word t w)
integer_cast t (undefined k) = undefined k
integer_cast t c = no_constant

abbrev pub cast_constant : CType → CType → Constant → Constant
cast_constant (integer k) (integer l) c = integer_cast (integer k) c
cast_constant (pointer t) from c = pointer_cast (pointer t) c
cast_constant t from c = no_constant

-- a part of an object at a constant place
abbrev pub part_at : ℕ → Constant → Constant
part_at offset (place_at o a named) = place_at o ((a + offset) % 2 ^ 32) false
part_at offset (undefined_address k) = undefined_address k
part_at offset c = no_constant

abbrev pub element_at : ℕ → Constant → Constant → Constant
element_at size (place_at o a named) (number w) = place_at o ((a + w * size) % 2 ^ 32) false
element_at size (place_at o a named) (undefined k) = undefined_address k
element_at size (undefined_address k) y = where_formed y (undefined_address k)
element_at size x y = no_constant

-- `&` of it
abbrev pub address_constant : Constant → Constant
address_constant (place_at o a named) = address_of o a
address_constant (undefined_address k) = undefined_address k
address_constant c = no_constant
