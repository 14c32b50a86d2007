use Rattle.std.proofs.Common.{◌+◌, ◌-◌, ◌*◌, ◌/◌, sym, subst}
use Rattle.c_types.specs.InOrder.{IsLeastMultiple}
use Rattle.c_types.proofs.OrderLaws.{least_multiple_is}
use Rattle.c_types.proofs.in_order.least_multiple.Goals as goal

pub returns-clause-least : goal.returns-clause-least
returns-clause-least c = subst (λ a. IsLeastMultiple c.args.align c.args.from ((c.args.from + (a - 1)) / a * a)) (sym c.from-align.ensures) (least_multiple_is c.args.align c.args.from c.requires.some)
