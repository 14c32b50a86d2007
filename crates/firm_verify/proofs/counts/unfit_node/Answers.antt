use Rattle.std.proofs.Common.{get_or, sym, subst, ℕ, arith}
use Rattle.firm_rules.specs.Graphs.{FirmNode, operands_of}
use Rattle.firm_rules.specs.Rules.{OperandsFit}
use Rattle.firm_verify.proofs.CountsLaws.{NodeFits}
use Rattle.firm_tables.specs.Nodes.{numbers}
use Rattle.firm_tables.proofs.MemberLaws.{number_at}
use Rattle.firm_tables.proofs.NodeLaws.{agrees, refuses}
use Rattle.firm_verify.specs.Broken.{operands}
use Rattle.firm_verify.proofs.GraphLaws.{node_listed, each_more, at_nodes, breaks}
use Rattle.firm_verify.proofs.counts.unfit_node.Goals as goal

pub operands_fit-requires-clause-node : goal.operands_fit-requires-clause-node
operands_fit-requires-clause-node c = node_listed c.args.graph.now c.args.nodes.now c.loop-node.node-index (record { number = 0 }) c.requires.nodes c.loop-node-test.true

pub node-requires : goal.node-requires
node-requires c = node_listed c.args.graph.now c.args.nodes.now c.loop-node.node-index (record { number = 0 }) c.requires.nodes c.loop-node-test.true

pub loop-node-preserved : goal.loop-node-preserved
loop-node-preserved c =
    let g = c.args.graph.now in
    let nodes = c.args.nodes.now in
    let at = c.loop-node.node-index in
    each_more (λ i. NodeFits g (get_or (numbers nodes) i 0)) at c.loop-node.invariant
    (subst (NodeFits g) (sym (number_at nodes at (record { number = 0 }) c.loop-node-test.true)) (agrees c.operands_fit.result c.if-not-operands_fit.false c.operands_fit.ensures))

pub returns-then-not-operands_fit-clause-some : goal.returns-then-not-operands_fit-clause-some
returns-then-not-operands_fit-clause-some c =
    operands (get_or c.args.nodes.now c.loop-node.node-index (record { number = 0 }))
    (breaks c.args.graph.now (λ (n : ℕ) (node : FirmNode). OperandsFit c.args.graph.now (operands_of node.op) node.operands) (get_or c.args.nodes.now c.loop-node.node-index (record { number = 0 })).number c.node.result.block.number
    (node_listed c.args.graph.now c.args.nodes.now c.loop-node.node-index (record { number = 0 }) c.requires.nodes c.loop-node-test.true) c.node.ensures.block (refuses c.operands_fit.result c.if-not-operands_fit.true c.operands_fit.ensures))

pub returns-clause-none : goal.returns-clause-none
returns-clause-none c =
    let g = c.args.graph.now in
    at_nodes g (λ (n : ℕ) (node : FirmNode). OperandsFit g (operands_of node.op) node.operands) c.args.nodes.now c.requires.nodes (λ i h. c.loop-node.invariant i (omega (arith, h, c.loop-node-test.false)))
