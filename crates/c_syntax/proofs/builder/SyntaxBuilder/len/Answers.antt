use Rattle.std.proofs.Common.{ap, ◌∙◌, length}
use Rattle.c_syntax.specs.Tables.{stack_of}
use Rattle.c_syntax.proofs.TreeLaws.{length-stack}
use Rattle.c_syntax.proofs.builder.SyntaxBuilder.len.Goals as goal

pub returns : goal.returns
returns c =
    c.len.ensures ∙ c.self.inside.roots.ok.0 ∙ ap length c.self.invariant.roots_are ∙ length-stack 0 (stack_of c.self.inside.nodes.items)
    ∙ ap (λ ns. length (stack_of ns)) c.self.view_is
