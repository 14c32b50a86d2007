use Rattle.std.proofs.Common.{◌<◌, ◌∙◌, ◌∷◌, [], inr, ap, sym, subst}
use Rattle.c_typing.specs.Places.{node_at, takes_before}
use Rattle.c_nodes.specs.Parents.{nodes_in}
use Rattle.c_nodes.specs.Scopes.{scope_of}
use Rattle.c_nodes.proofs.ScopeLaws.{with_parameters, alone}
use Rattle.c_nodes.proofs.scope.block_scope.Goals as goal

pub kid-requires : goal.kid-requires
kid-requires c = subst (λ n. c.in-Some.takes < n) c.requires.next.nodes ((c.in-Some.ensures {u = tt}).0)

pub returns-in-Some-clause-is : goal.returns-in-Some-clause-is
returns-in-Some-clause-is c =
    let s = nodes_in c.args.nodes.now in
    with_parameters s c.args.block c.first-first.result c.requires.next.numbered (subst (λ k. c.args.block < k) (sym c.requires.next.nodes) c.requires.within)
    c.first-first.ensures.is c.in-Some.takes c.kid.result (takes_before s (node_at s c.args.block)) (c.in-Some.ensures {u = tt}) c.kid.ensures.is

pub returns-in-Some-clause-inside : goal.returns-in-Some-clause-inside
returns-in-Some-clause-inside c = (inr (subst (λ n. c.in-Some.takes < n) c.requires.next.nodes ((c.in-Some.ensures {u = tt}).0)), inr c.requires.within)

pub returns-in-None-clause-is : goal.returns-in-None-clause-is
returns-in-None-clause-is c =
    let s = nodes_in c.args.nodes.now in
    ap (λ span. scope_of span ∷ []) c.plain.ensures
    ∙ alone s c.args.block c.first-first.result c.requires.next.numbered (subst (λ k. c.args.block < k) (sym c.requires.next.nodes) c.requires.within)
    c.first-first.ensures.is (takes_before s (node_at s c.args.block)) (c.in-None.ensures {u = tt})
