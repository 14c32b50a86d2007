use Rattle.c_declared_types.proofs.BuildLaws.{incomplete, array_incomplete}
use Rattle.c_declared_types.proofs.built.array_of.Goals as goal

pub returns-in-None-clause-is : goal.returns-in-None-clause-is
returns-in-None-clause-is c = λ ls t laid named.
    array_incomplete c.args.table.now ls laid c.args.id t named c.args.count c.args.node (incomplete ls t c.args.node (c.in-None.ensures.is t ls named laid))
