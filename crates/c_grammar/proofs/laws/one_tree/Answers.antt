use Rattle.c_grammar.proofs.OneTree.{one_tree_of}
use Rattle.c_grammar.proofs.laws.one_tree.Goals as goal

pub returns : goal.returns
returns c a t u = one_tree_of a t u
