-- Constants as the code has them, and as the rules do.
use Rattle.c_typing.specs.Judgements as rules
use Rattle.c_constants.specs.declared.constants.Constant.{Constant}
use Rattle.c_constants.specs.declared.constants.Constant.TheVariants as code

abbrev pub constant_of : Constant → rules.Constant
constant_of code.None = rules.no_constant
constant_of (code.Undefined node) = rules.undefined node
constant_of (code.Number w) = rules.number w
constant_of code.NullPointer = rules.null_pointer
constant_of code.ZeroPointer = rules.zero_pointer
constant_of (code.AddressOf o a) = rules.address_of o a
constant_of (code.UndefinedAddress node) = rules.undefined_address node
constant_of (code.PlaceAt o a named) = rules.place_at o a named
