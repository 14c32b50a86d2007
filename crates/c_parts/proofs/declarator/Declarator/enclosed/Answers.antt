use Rattle.std.proofs.Common.{refl}
use Rattle.c_parts.proofs.DeclaratorLaws.{enclosed_is}
use Rattle.c_parts.proofs.declarator.Declarator.enclosed.Goals as goal

pub returns-clause-tree : goal.returns-clause-tree
returns-clause-tree c = λ t under first says. (c.in_ok-part.ensures.tree t under first, enclosed_is t _ _ _ says refl refl refl)
