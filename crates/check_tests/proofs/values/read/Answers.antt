use Rattle.std.proofs.Common.{refl}
use Rattle.c_types.specs.Forms.{address}
use Rattle.c_typing.specs.Types.{integer, short}
use Rattle.c_typing.specs.Judgements.{in_memory, no_constant}
use Rattle.check_tests.proofs.values.read.Goals as goal

-- a `short` in memory
pub value_of-requires : goal.value_of-requires
value_of-requires c = (record { type = integer short; form = in_memory; code = address 0 2; constant = no_constant }, record { has = tt; type = (c.in_ok-short.ensures {u = tt}).ok; form = refl; constant = refl; code = refl })
