use Rattle.std.proofs.Common.{arith}
use Rattle.c_types.proofs.OrderLaws.{greatest_align_some}
use Rattle.c_types.proofs.types.struct_measure.Goals as goal

pub least_multiple-size-requires-clause-some : goal.least_multiple-size-requires-clause-some
least_multiple-size-requires-clause-some c = let some = greatest_align_some c.args.measures.now in let is = c.greatest_align-align.ensures in omega (arith, some, is)
