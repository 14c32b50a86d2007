-- The objects that constants name.
use Rattle.std.proofs.Common.{ℕ, ◌<◌, Bool, true, false, List, Option, Some, None}
use Rattle.std.specs.Prelude.{if◌then◌else◌, ◌==◌}
use Rattle.c_types.specs.declared.tree.COp.{COp}
use Rattle.c_types.specs.Operators.{c_operator}
use Rattle.c_typing.specs.Types.{CType, void, integer, pointer, array, unsized, struct, function, Layout, size_of}
use Rattle.c_typing.specs.Judgements.{Form, value, in_local, in_memory, temporary, callee, Constant, no_constant, undefined, number, null_pointer, zero_pointer, address_of, undefined_address, place_at, Typing}
use Rattle.c_typing.specs.Conversions.{address_in, read_by, value_by, value_of, Class, additive, subtractive, and_then, or_else, points_to_void}
use Rattle.c_typing.specs.Rules.{is_constant}
use Rattle.c_typing.specs.Constants.{evaluated, operated, where_formed, truth_of, both_constant, either_constant, chosen_constant, moved_up, moved_down, sum_constant, difference_constant, binary_constant, pointer_cast, integer_cast, cast_constant, part_at, element_at, address_constant}

-- a constant names an object below this number
module _ (B : ℕ) where
  abbrev pub Fits : Constant → Type 0
  Fits (address_of o a) = o < B
  Fits (place_at o a named) = o < B
  Fits c = Unit {0}

  if_fits : (b : Bool) (c d : Constant) → Fits c → Fits d → Fits (if b then c else d)
  if_fits true c d h g = h
  if_fits false c d h g = g

  address_in_fits : (c : Constant) → Fits c → Fits (address_in c)
  address_in_fits (place_at o a true) h = h
  address_in_fits (place_at o a false) h = tt
  address_in_fits _ h = tt

  read_fits : (u : CType) (x : Typing) → Fits x.constant → Fits (read_by u x).constant
  read_fits (array u n) x h = address_in_fits x.constant h
  read_fits (unsized u) x h = address_in_fits x.constant h
  read_fits void x h = tt
  read_fits (integer k) x h = tt
  read_fits (pointer u) x h = tt
  read_fits (struct k) x h = tt
  read_fits (function r ps) x h = tt

  value_by_fits : (f : Form) (x : Typing) → Fits x.constant → Fits (value_by f x).constant
  value_by_fits (in_local k) x h = tt
  value_by_fits in_memory x h = read_fits x.type x h
  value_by_fits temporary x h = read_fits x.type x h
  value_by_fits value x h = h
  value_by_fits (callee c) x h = h

  pub value_fits : (x : Typing) → Fits x.constant → Fits (value_of x).constant
  value_fits x h = value_by_fits x.form x h

  evaluated_fits : (n : ℕ) (o : Option ℕ) → Fits (evaluated n o)
  evaluated_fits n None = tt
  evaluated_fits n (Some w) = tt

  pub operated_fits : (op : COp) (n : ℕ) (x y : Constant) → Fits (operated op n x y)
  operated_fits op n (number a) (number b) = evaluated_fits n (c_operator op a b)
  operated_fits op n (undefined k) y = if_fits (is_constant y) (undefined k) no_constant tt tt
  operated_fits op n (number a) (undefined k) = tt
  operated_fits op n (number a) y = tt
  operated_fits op n no_constant (undefined k) = tt
  operated_fits op n null_pointer (undefined k) = tt
  operated_fits op n zero_pointer (undefined k) = tt
  operated_fits op n (address_of o a) (undefined k) = tt
  operated_fits op n (undefined_address j) (undefined k) = tt
  operated_fits op n (place_at o a b) (undefined k) = tt
  operated_fits op n x y = tt

  formed_fits : (x c : Constant) → Fits c → Fits (where_formed x c)
  formed_fits x c h = if_fits (is_constant x) c no_constant h tt

  truth_fits : (c : Constant) → Fits (truth_of c)
  truth_fits (number w) = tt
  truth_fits (undefined k) = tt
  truth_fits _ = tt

  both_fits : (x y : Constant) → Fits (both_constant x y)
  both_fits (number w) y = if_fits (w == 0) (where_formed y (number 0)) (truth_of y) (formed_fits y (number 0) tt) (truth_fits y)
  both_fits (undefined k) y = formed_fits y (undefined k) tt
  both_fits _ y = tt

  either_fits : (x y : Constant) → Fits (either_constant x y)
  either_fits (number w) y = if_fits (w == 0) (truth_of y) (where_formed y (number 1)) (truth_fits y) (formed_fits y (number 1) tt)
  either_fits (undefined k) y = formed_fits y (undefined k) tt
  either_fits _ y = tt

  pub chosen_fits : (c x y : Constant) → Fits x → Fits y → Fits (chosen_constant c x y)
  chosen_fits (number w) x y h g = formed_fits x (where_formed y (if w == 0 then y else x)) (formed_fits y (if w == 0 then y else x) (if_fits (w == 0) y x g h))
  chosen_fits (undefined k) x y h g = formed_fits x (where_formed y (undefined k)) (formed_fits y (undefined k) tt)
  chosen_fits _ x y h g = tt

  up_fits : (size : ℕ) (x y : Constant) → Fits x → Fits (moved_up size x y)
  up_fits size (address_of o a) (number w) h = h
  up_fits size (address_of o a) (undefined k) h = tt
  up_fits size (address_of o a) _ h = tt
  up_fits size (undefined_address k) y h = formed_fits y (undefined_address k) tt
  up_fits size _ y h = tt

  down_fits : (size : ℕ) (x y : Constant) → Fits x → Fits (moved_down size x y)
  down_fits size (address_of o a) (number w) h = h
  down_fits size (address_of o a) (undefined k) h = tt
  down_fits size (address_of o a) _ h = tt
  down_fits size (undefined_address k) y h = formed_fits y (undefined_address k) tt
  down_fits size _ y h = tt

  module _ (ls : List Layout) (op : COp) (n : ℕ) where
    sum_fits : (u v : CType) (x y : Constant) → Fits x → Fits y → Fits (sum_constant ls op n u v x y)
    sum_fits (pointer u) v x y h g = up_fits (size_of ls u) x y h
    sum_fits u (pointer v) x y h g = up_fits (size_of ls v) y x g
    sum_fits u v x y h g = operated_fits op n x y

    difference_fits : (u v : CType) (x y : Constant) → Fits x → Fits (difference_constant ls op n u v x y)
    difference_fits (pointer u) v x y h = down_fits (size_of ls u) x y h
    difference_fits u v x y h = operated_fits op n x y

    pub binary_fits : (c : Class) (u v : CType) (x y : Constant) → Fits x → Fits y → Fits (binary_constant ls op n c u v x y)
    binary_fits additive u v x y h g = sum_fits u v x y h g
    binary_fits subtractive u v x y h g = difference_fits u v x y h
    binary_fits and_then u v x y h g = both_fits x y
    binary_fits or_else u v x y h g = either_fits x y
    binary_fits c u v x y h g = operated_fits op n x y

  pointer_fits : (u : CType) (c : Constant) → Fits c → Fits (pointer_cast u c)
  pointer_fits u (number w) h = if_fits (w == 0) (if points_to_void u then null_pointer else zero_pointer) no_constant (if_fits (points_to_void u) null_pointer zero_pointer tt tt) tt
  pointer_fits u null_pointer h = tt
  pointer_fits u zero_pointer h = tt
  pointer_fits u (address_of o a) h = h
  pointer_fits u (undefined_address k) h = tt
  pointer_fits u _ h = tt

  integer_fits : (u : CType) (c : Constant) → Fits (integer_cast u c)
  integer_fits u (number w) = tt
  integer_fits u (undefined k) = tt
  integer_fits u _ = tt

  pub cast_fits : (u v : CType) (c : Constant) → Fits c → Fits (cast_constant u v c)
  cast_fits (integer k) (integer l) c h = integer_fits (integer k) c
  cast_fits (pointer u) v c h = pointer_fits (pointer u) c h
  cast_fits u v c h = tt

  pub part_fits : (offset : ℕ) (c : Constant) → Fits c → Fits (part_at offset c)
  part_fits offset (place_at o a b) h = h
  part_fits offset (undefined_address k) h = tt
  part_fits offset _ h = tt

  pub element_fits : (size : ℕ) (x y : Constant) → Fits x → Fits (element_at size x y)
  element_fits size (place_at o a b) (number w) h = h
  element_fits size (place_at o a b) (undefined k) h = tt
  element_fits size (place_at o a b) _ h = tt
  element_fits size (undefined_address k) y h = formed_fits y (undefined_address k) tt
  element_fits size _ y h = tt

  pub address_fits : (c : Constant) → Fits c → Fits (address_constant c)
  address_fits (place_at o a b) h = h
  address_fits (undefined_address k) h = tt
  address_fits _ h = tt
