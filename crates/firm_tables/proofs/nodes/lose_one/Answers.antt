use Rattle.std.proofs.Common.{arith, ap, length}
use Rattle.firm_tables.proofs.LossLaws.{not_there}
use Rattle.firm_tables.proofs.nodes.lose_one.Goals as goal

pub returns-else-place-list-clause-uses : goal.returns-else-place-list-clause-uses
returns-else-place-list-clause-uses c =
    not_there c.args.operands.now.uses c.args.op c.args.node c.args.place (omega (arith, ap length c.list.ensures, c.if-place-list.false))
