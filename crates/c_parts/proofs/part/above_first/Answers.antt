use Rattle.std.proofs.Common.{rules, ◌≡◌, ◌∷◌, max, ◌∙◌}
use Rattle.c_parts.proofs.PushLaws.{first_and_more, same_height, one_less}
use Rattle.c_parts.proofs.part.above_first.Goals as goal

pub returns-clause-tree : goal.returns-clause-tree
returns-clause-tree c = λ t ts under behind mark first row.
    let most : c.max-height.result ≡ max c.args.first.height c.args.height = search rules in
    let lower = c.saturating_sub.ensures ∙ one_less t under behind c.args.first c.args.mark mark first in
    c.above_row.ensures.tree (t ∷ ts) under lower (same_height _ _ _ _ _ most (first_and_more t ts under behind _ c.args.height c.args.first first row))
