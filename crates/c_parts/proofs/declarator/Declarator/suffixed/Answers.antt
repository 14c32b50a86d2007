use Rattle.std.proofs.Common.{[], refl, ap₂}
use Rattle.c_syntax.specs.Trees.{◌then◌, forest_of, text_node}
use Rattle.c_parts.proofs.PushLaws.{declarator_stop, same_node}
use Rattle.c_parts.proofs.DeclaratorLaws.{suffixed_is}
use Rattle.c_parts.proofs.declarator.Declarator.suffixed.Goals as goal

pub returns-clause-tree : goal.returns-clause-tree
returns-clause-tree c = λ t ts under behind mark first says row.
    let pushed = c.in_ok-part.ensures.tree t ts under behind mark first row in
    let node = ap₂ (λ k n. text_node k [] n (t then forest_of ts)) c.kind-kind.ensures first.start_is in
    (same_node _ _ under _ c.in_ok-part.part node pushed, suffixed_is t _ _ _ says refl refl c.args.suffix (forest_of ts) refl)

pub returns-in_err-part-clause-tree : goal.returns-in_err-part-clause-tree
returns-in_err-part-clause-tree c = λ t ts under behind mark first says row.
    declarator_stop _ under _ _ c.in_err-part.field-0.0 c.from_residual.ensures (c.in_err-part.ensures.tree t ts under behind mark first row)
