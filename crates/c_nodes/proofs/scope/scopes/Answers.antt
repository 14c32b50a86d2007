use Rattle.std.proofs.Common.{◌+◌, ◌<◌, ◌++◌, ◌∙◌, ap, drop, length, subst, sym}
use Rattle.c_typing.specs.Places.{node_at, scopes_from}
use Rattle.c_nodes.specs.Parents.{nodes_in}
use Rattle.c_nodes.proofs.ScopeLaws.{next_scope, cut_at}
use Rattle.c_nodes.proofs.scope.scopes.Goals as goal

pub loop-number-preserved : goal.loop-number-preserved
loop-number-preserved c =
    let s = nodes_in c.args.nodes.now in
    let n = c.loop-number.number in
    let within : n < length s = subst (λ k. n < k) (c.len-number-end.ensures.is ∙ sym c.len-number-end.ensures.nodes) c.loop-number-test.true in
    record {
      so_far = ap (λ ss. ss ++ scopes_from s (drop (n + 1) s)) ((c.in_ok-append.ensures {u = tt}).are)
          ∙ next_scope s n (node_at s n) (drop (n + 1) s) c.loop-number.spans.items c.scope_by.result (cut_at s n within) c.scope_by.ensures.is c.loop-number.invariant.so_far;
      within = (c.in_ok-append.ensures {u = tt}).within (length c.args.nodes.now) c.loop-number.invariant.within c.scope_by.ensures.inside;
    }
