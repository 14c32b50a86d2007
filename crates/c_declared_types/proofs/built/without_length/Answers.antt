use Rattle.std.proofs.Common.{[]}
use Rattle.c_declared_types.proofs.BuildLaws.{incomplete}
use Rattle.c_declared_types.proofs.built.without_length.Goals as goal

pub returns-in-None-clause-is : goal.returns-in-None-clause-is
returns-in-None-clause-is c = λ ls t laid named. ([], incomplete ls t c.args.node (c.in-None.ensures.is t ls named laid))
