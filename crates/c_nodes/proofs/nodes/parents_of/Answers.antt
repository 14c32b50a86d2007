use Rattle.c_nodes.proofs.ParentLaws.{in_order_of}
use Rattle.c_nodes.proofs.nodes.parents_of.Goals as goal

pub adopt_all-requires-clause-order : goal.adopt_all-requires-clause-order
adopt_all-requires-clause-order c = in_order_of c.args.nodes.now c.requires
