use Rattle.std.proofs.Common.{arith, refl, suc, ◌∙◌}
use Rattle.c_meanings.specs.Meanings.{node_in}
use Rattle.c_expression_rows.proofs.ArgumentLaws.{all_kids, as_many_ids, one_kid_more}
use Rattle.c_expression_rows.proofs.arguments.argument_nodes.Goals as goal

pub loop-index-init : goal.loop-index-init
loop-index-init c = (0, refl, c.new-found.ensures.items)

pub loop-index-preserved : goal.loop-index-preserved
loop-index-preserved c =
    let kids = (node_in c.args.nodes.now c.args.node).kids in
    let l = c.loop-index in
    let long = as_many_ids c.kids-index-end.result.now kids c.kids-index-end.ensures.are in
    let less = c.loop-index-test.true in
    let (k, same, are) = l.invariant in
    (suc k, omega (arith, same), one_kid_more kids l.found.items c.push.new.self.items k l.index c.kid.result c.in_ok-push.ensures.items c.kid.ensures.is same (omega (arith, long, less)) are)

pub returns : goal.returns
returns c =
    let kids = (node_in c.args.nodes.now c.args.node).kids in
    let long = as_many_ids c.kids-index-end.result.now kids c.kids-index-end.ensures.are in
    let past = c.loop-index-test.false in
    let (k, same, are) = c.loop-index.invariant in
    are ∙ all_kids kids k (omega (arith, long, past, same))
