use Rattle.c_grammar.proofs.Sound.{found_tree, found_trees, found_unit}
use Rattle.c_grammar.proofs.laws.found_is_derived.Goals as goal

pub returns-clause-goal : goal.returns-clause-goal
returns-clause-goal c d goal names a b t = found_tree d goal names a b t

pub returns-clause-row : goal.returns-clause-row
returns-clause-row c d row names a b ts = found_trees d row names a b ts

pub returns-clause-unit : goal.returns-clause-unit
returns-clause-unit c d a t = found_unit d a t
