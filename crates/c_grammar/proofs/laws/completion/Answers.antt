use Rattle.c_grammar.proofs.TooDeep.Whole.{unit_completes}
use Rattle.c_grammar.proofs.laws.completion.Goals as goal

pub returns : goal.returns
returns c d ts rest e = unit_completes d ts rest e
