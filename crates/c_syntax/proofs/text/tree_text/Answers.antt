use Rattle.std.proofs.Common.{sym, ap, subst, ◌∙◌, ◌++◌, length}
use Rattle.c_syntax.specs.Tables.{StandsFor, StandsWithin}
use Rattle.c_syntax.specs.TreeText.{tree_text, tree_lines}
use Rattle.c_syntax.proofs.TextLaws.{root_stands}
use Rattle.c_syntax.proofs.text.tree_text.Goals as goal

pub put_tree-requires : goal.put_tree-requires
put_tree-requires c = subst (λ table. StandsWithin table c.root.result 0) (sym c.nodes.ensures.all) c.root.ensures.low

pub returns : goal.returns
unfolding tree_text
returns c = λ tree whole.
    let all = c.nodes.ensures.all ∙ whole in
    let stands = root_stands tree c.root.result (c.root.ensures.last ∙ ap length whole) in
    c.in_ok-put_tree.ensures tree (subst (λ table. StandsFor table c.root.result tree) (sym all) stands) ∙ ap (λ out. out ++ tree_lines 0 tree) c.new-out.ensures
