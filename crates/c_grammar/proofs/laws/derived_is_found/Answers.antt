use Rattle.c_grammar.proofs.OneTree.{unit_reads, wrong_has_none}
use Rattle.c_grammar.proofs.laws.derived_is_found.Goals as goal

pub returns-clause-found : goal.returns-clause-found
returns-clause-found c d a t derived le = (unit_reads a t derived d).low le

pub returns-clause-too_deep : goal.returns-clause-too_deep
returns-clause-too_deep c d a t derived lt = let answer = (unit_reads a t derived d).high lt in (answer.behind, answer.too_deep)

pub returns-clause-wrong : goal.returns-clause-wrong
returns-clause-wrong c d a rest t e derived = wrong_has_none d a rest t e derived
