use Rattle.c_grammar.proofs.CutLaw.{cut_deep, cut_wrong}
use Rattle.c_grammar.proofs.laws.cut.Goals as goal

pub returns-clause-deep : goal.returns-clause-deep
returns-clause-deep c d pre rest other t e tree = cut_deep d pre rest other t e tree

pub returns-clause-wrong : goal.returns-clause-wrong
returns-clause-wrong c d pre rest other next t e tree = cut_wrong d pre rest other next t e tree
