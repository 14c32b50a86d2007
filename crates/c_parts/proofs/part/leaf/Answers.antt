use Rattle.std.proofs.Common.{[], refl}
use Rattle.c_syntax.specs.Tables.{stack_of}
use Rattle.c_parts.proofs.PushLaws.{node_above, no_trees}
use Rattle.c_parts.proofs.part.leaf.Goals as goal

pub returns-clause-tree : goal.returns-clause-tree
returns-clause-tree c =
    node_above c.args.kind c.args.text.now c.args.start 0 [] (stack_of c.args.trees.now) (stack_of c.args.trees.now) _ (no_trees _) 0 refl c.above_last.result c.above_last.ensures.tree
