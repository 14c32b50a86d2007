use Rattle.std.proofs.Common.{◌∙◌, sym}
use Rattle.firm_rules.specs.Rules.{is_start}
use Rattle.firm_verify.proofs.FirstLaws.{member_there, passing_more, passing_all, counted, not_counted}
use Rattle.firm_verify.proofs.first.count_starts.Goals as goal
use Rattle.firm_verify.proofs.first.count_starts.Goals.{then-is_start, else-is_start}

pub node-requires : goal.node-requires
node-requires c = member_there c.args.graph.now c.args.block.number c.args.nodes.now c.loop-node.node-index (record { number = 0 }) c.requires c.loop-node-test.true

pub loop-node-preserved : goal.loop-node-preserved
loop-node-preserved c =
    passing_more c.args.graph.now is_start c.args.nodes.now c.loop-node.node-index c.loop-node.count c.if-is_start.count (record { number = 0 }) c.node.result.op c.loop-node-test.true c.loop-node.invariant c.node.ensures.op
    (elim c.if-is_start.branch [
      | then-is_start w ↦ counted c.loop-node.count c.if-is_start.count (is_start c.node.result.op) (sym c.is_start.ensures ∙ w.if-is_start.true) w.count-is
      | else-is_start w ↦ not_counted c.loop-node.count c.if-is_start.count (is_start c.node.result.op) (sym c.is_start.ensures ∙ w.if-is_start.false) w.count-is
    ])

pub returns : goal.returns
returns c = passing_all c.args.graph.now is_start c.args.nodes.now c.loop-node.node-index c.loop-node.count c.loop-node-test.false c.loop-node.invariant.1
