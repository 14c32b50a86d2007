use Rattle.std.proofs.Common.{◌∙◌, ap}
use Rattle.c_typing.specs.Types as types
use Rattle.c_typing.specs.Initializers as initializers
use Rattle.c_initializers.proofs.ScalarLaws.{integer_shown}
use Rattle.c_initializers.proofs.scalars.scalar_cell.Goals as goal

pub returns-in-Integer : goal.returns-in-Integer
returns-in-Integer c = λ ls t d names scalar is.
    ap (λ u. initializers.constant_cell u 0 (types.size_of ls u) d) (integer_shown c.args.table.now c.in-Integer.integer t ((c.in-Integer.ensures {u = tt}) t names)) ∙ c.integer_cell.ensures ls d is
