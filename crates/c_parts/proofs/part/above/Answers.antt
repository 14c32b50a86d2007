use Rattle.std.proofs.Common.{[], ◌∷◌, refl}
use Rattle.c_syntax.specs.Tables.{stack_of}
use Rattle.c_parts.proofs.PushLaws.{node_above, alone}
use Rattle.c_parts.proofs.part.above.Goals as goal

pub returns-clause-tree : goal.returns-clause-tree
returns-clause-tree c = λ t under first.
    node_above c.args.kind c.args.text.now c.args.start c.args.kid.height (t ∷ []) under (stack_of c.args.trees.now) _ (alone t under _ c.args.kid first)
    1 refl c.above_last.result c.above_last.ensures.tree
