use Rattle.std.proofs.Common.{◌<◌, ◌∙◌, ap, subst, sym}
use Rattle.c_typing.specs.Places.{kid, kind_at, node_at}
use Rattle.c_nodes.specs.Parents.{nodes_in}
use Rattle.c_names.specs.Texts.{has_name}
use Rattle.c_names.specs.Denoted.{IsScoped}
use Rattle.c_names.proofs.FunctionLaws.{named_function}
use Rattle.c_names.proofs.scoped.ScopedNodes.function_text.Goals as goal

pub text-requires-clause-named : goal.text-requires-clause-named
text-requires-clause-named c =
    let v = c.self.inside in
    let k = subst (λ ns. IsScoped ns v.wholes.items v.next.items v.texts.items v.scopes.items v.inner.items) c.self.view_is c.self.invariant in
    let s = nodes_in c.args.self.now in
    let low = c.kid.ensures.is ∙ ap (λ ns. kid (node_at (nodes_in ns) c.args.function) 1) c.self.view_is in
    let first = c.first.ensures.is ∙ ap (λ ns. (node_at (nodes_in ns) c.kid.result).first) c.self.view_is in
    ap (λ i. has_name (kind_at s i)) (first ∙ ap (λ i. (node_at s i).first) low)
    ∙ named_function c.args.self.now k.derived c.args.function (subst (λ n. c.args.function < n) (sym k.wholes.nodes) c.requires.within) c.requires.kind
