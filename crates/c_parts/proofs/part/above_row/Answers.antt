use Rattle.std.proofs.Common.{◌-◌, ap, ◌∙◌}
use Rattle.c_syntax.specs.Tables.{stack_of}
use Rattle.c_parts.proofs.PushLaws.{node_above, behind_mark}
use Rattle.c_parts.proofs.part.above_row.Goals as goal

pub returns-clause-tree : goal.returns-clause-tree
returns-clause-tree c = λ ts under mark row.
    let old = stack_of c.args.trees.now in
    let all = c.saturating_sub-kids.ensures ∙ ap (λ n. n - c.args.mark) c.len.ensures
    ∙ behind_mark c.args.kind c.args.text.now c.args.start c.args.height ts under old old row c.args.mark mark in
    node_above c.args.kind c.args.text.now c.args.start c.args.height ts under old _ row c.saturating_sub-kids.result all c.above_last.result c.above_last.ensures.tree
