use Rattle.std.proofs.Common.{ap, ◌∙◌}
use Rattle.std.specs.Str.{bytes_eq}
use Rattle.c_typing.specs.Places.{node_at, text_at}
use Rattle.c_nodes.specs.Parents.{nodes_in}
use Rattle.c_uses.proofs.MainLaws.{name_text_is}
use Rattle.c_uses.proofs.mains.is_function_named.Goals as goal

pub returns : goal.returns
returns c =
    let s = nodes_in c.args.nodes.now in
    c.is_named.ensures
    ∙ ap (λ text. bytes_eq text c.args.text.now)
    (ap (text_at s) (c.first.ensures.is ∙ ap (λ k. (node_at s k).first) c.kid.ensures.is) ∙ name_text_is c.args.nodes.now (node_at s c.args.function))
