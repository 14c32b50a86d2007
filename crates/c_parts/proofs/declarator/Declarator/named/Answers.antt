use Rattle.std.proofs.Common.{refl}
use Rattle.c_parts.proofs.DeclaratorLaws.{named_is}
use Rattle.c_parts.proofs.declarator.Declarator.named.Goals as goal

pub returns-clause-tree : goal.returns-clause-tree
returns-clause-tree c = (c.in_ok-leaf.ensures.tree, named_is _ _ _ refl refl refl)
