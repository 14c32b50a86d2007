use Rattle.c_typing.specs.Types.{integer, short}
use Rattle.check_tests.proofs.values.narrowed.Goals as goal

-- what the code becomes is the type `short`
pub converted-requires : goal.converted-requires
converted-requires c = (integer short, (c.in_ok-short.ensures {u = tt}).ok)
