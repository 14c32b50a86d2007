-- Arrays without a length in types (C99 6.7.5.2). A type that is declared has none, but that of a name whose initializer is to
-- give the length.
use Rattle.std.specs.Prelude.{Bool, true, false, ◌||◌}
use Rattle.c_typing.specs.Types.{CType, CTypes, void, integer, pointer, array, unsized, struct, function, no_types, a_type}

abbrev mutual
  -- an array in the type has no length
  pub lacks_length : CType → Bool
  lacks_length void = false
  lacks_length (integer k) = false
  lacks_length (pointer t) = lacks_length t
  lacks_length (array t n) = lacks_length t
  lacks_length (unsized t) = true
  lacks_length (struct k) = false
  lacks_length (function r ts) = lacks_length r || one_lacks ts

  pub one_lacks : CTypes → Bool
  one_lacks no_types = false
  one_lacks (a_type t ts) = lacks_length t || one_lacks ts

-- an array inside of the outermost type has none
abbrev pub inside_lacks : CType → Bool
inside_lacks (unsized t) = lacks_length t
inside_lacks t = lacks_length t
