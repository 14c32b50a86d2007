use Rattle.std.proofs.Common.{rules, ◌≡◌, ◌∷◌, [], max, refl}
use Rattle.c_syntax.specs.Tables.{stack_of}
use Rattle.c_parts.proofs.PushLaws.{node_above, alone, first_and_more, same_height}
use Rattle.c_parts.proofs.part.above_three.Goals as goal

pub returns-clause-tree : goal.returns-clause-tree
returns-clause-tree c = λ t u v under behind last first second third.
    let most : c.max-height.result ≡ max c.args.first.height (max c.args.second.height c.args.third.height) = search rules in
    node_above c.args.kind [] c.args.start c.max-height.result (t ∷ u ∷ v ∷ []) under (stack_of c.args.trees.now) _ (
    same_height _ _ _ _ _ most (first_and_more t (u ∷ v ∷ []) under behind _ _ c.args.first first (
    first_and_more u (v ∷ []) behind last _ c.args.third.height c.args.second second (alone v last _ c.args.third third))))
    3 refl c.above_last.result c.above_last.ensures.tree
