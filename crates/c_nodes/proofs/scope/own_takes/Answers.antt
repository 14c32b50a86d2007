use Rattle.std.proofs.Common.{◌∙◌, ap, sym, subst, get_or, arith}
use Rattle.c_typing.specs.Places.{node_at, next_to_name, is_takes}
use Rattle.c_nodes.specs.Parents.{nodes_in}
use Rattle.c_nodes.specs.Declarators.{Points}
use Rattle.c_nodes.proofs.ScopeLaws.{own_found, own_missing, not_takes}
use Rattle.c_nodes.proofs.scope.own_takes.Goals as goal

pub returns-in-Takes : goal.returns-in-Takes
returns-in-Takes c =
    let s = nodes_in c.args.nodes.now in
    let low = c.first.ensures.low in
    let there = c.kid.ensures.there in
    let at = c.requires.next.points c.first.result (omega (arith, low, there)) in
    own_found s (node_at s c.args.function) (get_or c.args.next.now c.first.result 0)
    (subst (λ i. Points s (get_or c.args.next.now c.first.result 0) (next_to_name s i)) (c.first.ensures.is ∙ ap (λ n. (node_at s n).first) c.kid.ensures.is) at)
    (sym c.kind_at.ensures ∙ c.in-Takes.is)

pub returns-in_default : goal.returns-in_default
returns-in_default c =
    let s = nodes_in c.args.nodes.now in
    let low = c.first.ensures.low in
    let there = c.kid.ensures.there in
    let at = c.requires.next.points c.first.result (omega (arith, low, there)) in
    own_missing s (node_at s c.args.function) (get_or c.args.next.now c.first.result 0)
    (subst (λ i. Points s (get_or c.args.next.now c.first.result 0) (next_to_name s i)) (c.first.ensures.is ∙ ap (λ n. (node_at s n).first) c.kid.ensures.is) at)
    (ap is_takes (sym c.kind_at.ensures) ∙ not_takes c.kind_at.result c.in_default.not-Takes)
