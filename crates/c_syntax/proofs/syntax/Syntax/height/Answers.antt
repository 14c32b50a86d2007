use Rattle.std.proofs.Common.{ap, sym, ◌∙◌}
use Rattle.c_syntax.specs.Trees.{height}
use Rattle.c_syntax.proofs.TableLaws.{one_tree}
use Rattle.c_syntax.proofs.syntax.Syntax.height.Goals as goal

pub returns-clause-height : goal.returns-clause-height
returns-clause-height c = λ tree whole.
    c.self.invariant.highest ∙ ap height (one_tree c.self.invariant.of tree (sym c.self.invariant.whole ∙ c.self.view_is ∙ whole))
