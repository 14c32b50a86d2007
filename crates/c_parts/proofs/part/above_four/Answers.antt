use Rattle.std.proofs.Common.{rules, ◌≡◌, ◌∷◌, [], max, refl, ap, ◌∙◌}
use Rattle.c_syntax.specs.Tables.{stack_of}
use Rattle.c_parts.proofs.PushLaws.{node_above, alone, first_and_more, same_height}
use Rattle.c_parts.proofs.part.above_four.Goals as goal

pub returns-clause-tree : goal.returns-clause-tree
returns-clause-tree c = λ t u v w under behind middle last first second third fourth.
    let below : c.max-below.result ≡ max c.args.second.height (max c.args.third.height c.args.fourth.height) = search rules in
    let most : c.max-height.result ≡ max c.args.first.height c.max-below.result = search rules in
    node_above c.args.kind [] c.args.start c.max-height.result (t ∷ u ∷ v ∷ w ∷ []) under (stack_of c.args.trees.now) _ (
    same_height _ _ _ _ _ (most ∙ ap (max c.args.first.height) below) (first_and_more t (u ∷ v ∷ w ∷ []) under behind _ _ c.args.first first (
    first_and_more u (v ∷ w ∷ []) behind middle _ _ c.args.second second (
    first_and_more v (w ∷ []) middle last _ c.args.fourth.height c.args.third third (alone w last _ c.args.fourth fourth)))))
    4 refl c.above_last.result c.above_last.ensures.tree
