use Rattle.std.proofs.Common.{◌≡◌, ◌-◌, ◌+◌, ◌≤◌, ◌<◌, ◌∙◌, ℕ, ap, arith, length, subst, sym}
use Rattle.std.specs.Prelude.{slice_set}
use Rattle.std.proofs.lemmas.List.{length-set}
use Rattle.c_nodes.specs.Parents.{nodes_in}
use Rattle.c_tags.specs.Order.{IsDeep, depth_below}
use Rattle.c_tags.proofs.OrderLaws.{above_parent, deep_more}
use Rattle.c_tags.proofs.order.put_depths.Goals as goal

pub depth_below-requires : goal.depth_below-requires
depth_below-requires c =
    λ less.
    let l = c.loop-number in
    let some = c.loop-number-test.true in
    let low = l.invariant.low in
    let long = l.invariant.long in
    let up : l.number - 1 < c.parent.result = subst (λ k. l.number - 1 < k) (sym c.parent.ensures) (above_parent c.args.nodes.now c.len-number.ensures.nodes c.len-number.ensures.numbered (l.number - 1) (omega (arith, some, low))) in
    let deep = (l.invariant.deep c.parent.result (omega (arith, some, up)) (omega (arith, less, long))).1 in
    omega (arith, deep)

pub loop-number-preserved : goal.loop-number-preserved
loop-number-preserved c =
    let l = c.loop-number in
    let table = c.args.nodes.now in
    let k = l.number - 1 in
    let some = c.loop-number-test.true in
    let low = l.invariant.low in
    let at : k + 1 ≡ l.number = omega (arith, some) in
    let value = c.depth_below.ensures ∙ ap (depth_below l.depths) c.parent.ensures in
    record {
      long = length-set l.depths k c.depth_below.result ∙ l.invariant.long;
      low = omega (arith, low);
      deep = subst (λ v. (n : ℕ) → k ≤ n → n < length table → IsDeep (nodes_in table) (slice_set l.depths k v) n) (sym value)
          (deep_more table c.len-number.ensures.nodes c.len-number.ensures.numbered l.depths k l.invariant.long (omega (arith, some, low))
          (λ n from to. l.invariant.deep n (omega (arith, from, at)) to));
    }
