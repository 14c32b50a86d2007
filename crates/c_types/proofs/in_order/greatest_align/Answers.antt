use Rattle.std.proofs.Common.{arith}
use Rattle.c_types.proofs.OrderLaws.{greatest_align_some, max_one}
use Rattle.c_types.proofs.in_order.greatest_align.Goals as goal

pub loop-measure-init : goal.loop-measure-init
loop-measure-init c = record { greatest = max_one _ (greatest_align_some c.args.measures.now); some = omega arith }
