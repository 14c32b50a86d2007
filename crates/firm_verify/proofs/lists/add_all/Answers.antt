use Rattle.firm_verify.proofs.GraphLaws.{added_more, added_all}
use Rattle.firm_verify.proofs.lists.add_all.Goals as goal

pub loop-node-preserved : goal.loop-node-preserved
loop-node-preserved c =
    added_more c.args.nodes.now.items c.loop-node.nodes.items c.push.new.self.items c.args.more.now c.loop-node.node-index (record { number = 0 }) c.loop-node-test.true c.loop-node.invariant c.in_ok-push.ensures.items

pub returns : goal.returns
returns c = λ n. added_all c.args.nodes.now.items c.loop-node.nodes.items c.args.more.now c.loop-node.node-index n c.loop-node-test.false (c.loop-node.invariant n)
