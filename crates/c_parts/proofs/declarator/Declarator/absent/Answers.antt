use Rattle.std.proofs.Common.{refl}
use Rattle.c_parts.proofs.DeclaratorLaws.{absent_is}
use Rattle.c_parts.proofs.declarator.Declarator.absent.Goals as goal

pub returns-clause-tree : goal.returns-clause-tree
returns-clause-tree c = (c.in_ok-leaf.ensures.tree, absent_is _ _ refl refl refl)
