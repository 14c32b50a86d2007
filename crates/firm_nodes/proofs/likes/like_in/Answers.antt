use Rattle.std.proofs.Common.{[], subst, arith, get_or}
use Rattle.firm_tables.specs.Nodes.{numbers, IsLike}
use Rattle.firm_tables.proofs.NodeLaws.{refuses}
use Rattle.firm_tables.proofs.MemberLaws.{number_at}
use Rattle.firm_nodes.proofs.LikeLaws.{none_more}
use Rattle.firm_nodes.proofs.likes.like_in.Goals as goal

pub loop-node-preserved : goal.loop-node-preserved
loop-node-preserved c =
    let nodes = c.args.nodes.now in
    let list = c.args.alike.now in
    let at = c.loop-node.node-index in
    none_more (λ i. IsLike nodes c.args.op c.args.block [] (get_or (numbers list) i 0)) at c.loop-node.invariant
    (λ like. refuses c.is_like.result c.if-is_like.false c.is_like.ensures
    (subst (λ n. IsLike nodes c.args.op c.args.block [] n) (number_at list at (record { number = 0 }) c.loop-node-test.true) like))
