use Rattle.c_typing.proofs.ShapesNodes.{node_placed, node_has_parent}
use Rattle.c_typing.proofs.laws.nodes.Goals as goal

pub returns-clause-places : goal.returns-clause-places
returns-clause-places c tokens t n m derived e = node_placed tokens t derived n m e

pub returns-clause-parents : goal.returns-clause-parents
returns-clause-parents c tokens t n m derived e lt = node_has_parent tokens t derived n m e lt
