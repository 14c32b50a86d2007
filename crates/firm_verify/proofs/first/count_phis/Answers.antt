use Rattle.std.proofs.Common.{◌∙◌, sym}
use Rattle.firm_rules.specs.Rules.{is_phi}
use Rattle.firm_verify.proofs.FirstLaws.{member_there, passing_more, passing_all, counted, not_counted}
use Rattle.firm_verify.proofs.first.count_phis.Goals as goal
use Rattle.firm_verify.proofs.first.count_phis.Goals.{then-is_phi, else-is_phi}

pub node-requires : goal.node-requires
node-requires c = member_there c.args.graph.now c.args.block.number c.args.nodes.now c.loop-node.node-index (record { number = 0 }) c.requires c.loop-node-test.true

pub loop-node-preserved : goal.loop-node-preserved
loop-node-preserved c =
    passing_more c.args.graph.now is_phi c.args.nodes.now c.loop-node.node-index c.loop-node.count c.if-is_phi.count (record { number = 0 }) c.node.result.op c.loop-node-test.true c.loop-node.invariant c.node.ensures.op
    (elim c.if-is_phi.branch [
      | then-is_phi w ↦ counted c.loop-node.count c.if-is_phi.count (is_phi c.node.result.op) (sym c.is_phi.ensures ∙ w.if-is_phi.true) w.count-is
      | else-is_phi w ↦ not_counted c.loop-node.count c.if-is_phi.count (is_phi c.node.result.op) (sym c.is_phi.ensures ∙ w.if-is_phi.false) w.count-is
    ])

pub returns : goal.returns
returns c = passing_all c.args.graph.now is_phi c.args.nodes.now c.loop-node.node-index c.loop-node.count c.loop-node-test.false c.loop-node.invariant.1
