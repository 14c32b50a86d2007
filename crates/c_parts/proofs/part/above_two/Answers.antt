use Rattle.std.proofs.Common.{rules, ◌≡◌, ◌∷◌, [], max, refl}
use Rattle.c_syntax.specs.Tables.{stack_of}
use Rattle.c_parts.proofs.PushLaws.{node_above, alone, first_and_more, same_height}
use Rattle.c_parts.proofs.part.above_two.Goals as goal

pub returns-clause-tree : goal.returns-clause-tree
returns-clause-tree c = λ t u under behind first second.
    let most : c.max-height.result ≡ max c.args.first.height c.args.second.height = search rules in
    node_above c.args.kind c.args.text.now c.args.start c.max-height.result (t ∷ u ∷ []) under (stack_of c.args.trees.now) _ (
    same_height _ _ _ _ _ most (first_and_more t (u ∷ []) under behind _ c.args.second.height c.args.first first (alone u behind _ c.args.second second)))
    2 refl c.above_last.result c.above_last.ensures.tree
