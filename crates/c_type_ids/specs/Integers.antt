-- Integer types as the code has them, and as the rules do.
use Rattle.c_types.specs.declared.kind.TypeKind.{TypeKind}
use Rattle.c_types.specs.declared.kind.TypeKind.TheVariants as kind
use Rattle.c_typing.specs.Types as types
use Rattle.c_typing.specs.Types.{IntegerType}
use Rattle.c_type_ids.specs.declared.integers.Integer.{Integer}
use Rattle.c_type_ids.specs.declared.integers.Integer.TheVariants as integer
use Rattle.c_type_ids.specs.declared.integers.Traits.{Traits}

abbrev pub integer_of : Integer → IntegerType
integer_of integer.Bool = types.bool
integer_of integer.Char = types.char
integer_of integer.SChar = types.schar
integer_of integer.UChar = types.uchar
integer_of integer.Short = types.short
integer_of integer.UShort = types.ushort
integer_of integer.Int = types.int
integer_of integer.UInt = types.uint
integer_of integer.Long = types.long
integer_of integer.ULong = types.ulong

-- the kind that a table of types has for it
abbrev pub kind_of : IntegerType → TypeKind
kind_of types.bool = kind.Bool
kind_of types.char = kind.Char
kind_of types.schar = kind.SChar
kind_of types.uchar = kind.UChar
kind_of types.short = kind.Short
kind_of types.ushort = kind.UShort
kind_of types.int = kind.Int
kind_of types.uint = kind.UInt
kind_of types.long = kind.Long
kind_of types.ulong = kind.ULong

abbrev pub traits_told : Traits → types.Traits
traits_told t = types.traits t.size t.is_signed t.access t.narrowing
