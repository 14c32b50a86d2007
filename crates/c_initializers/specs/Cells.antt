-- What a constant is as the value of a cell, and as a null pointer.
use Rattle.std.specs.Prelude.{Bool, true, false}
use Rattle.c_types.specs.declared.tree.CellValue.{CellValue}
use Rattle.c_types.specs.declared.tree.CellValue.TheVariants.{Number, Address}
use Rattle.c_typing.specs.Judgements.{Constant, number, null_pointer, zero_pointer, address_of}

-- where it needs no conversion
abbrev pub unconverted : Constant → CellValue
unconverted (number w) = Number w
unconverted (address_of o a) = Address o a
unconverted c = Number 0

abbrev pub is_null_pointer : Constant → Bool
is_null_pointer null_pointer = true
is_null_pointer zero_pointer = true
is_null_pointer c = false
