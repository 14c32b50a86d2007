use Rattle.std.proofs.Common.{get_or, sym, subst, ℕ, arith}
use Rattle.firm_rules.specs.Graphs.{FirmNode}
use Rattle.firm_rules.specs.Rules.{PhiIsFull}
use Rattle.firm_tables.specs.Nodes.{numbers, node_of}
use Rattle.firm_tables.proofs.MemberLaws.{number_at}
use Rattle.firm_tables.proofs.NodeLaws.{agrees, refuses}
use Rattle.firm_verify.specs.Broken.{phi}
use Rattle.firm_verify.proofs.GraphLaws.{node_listed, each_more, at_nodes, breaks}
use Rattle.firm_verify.proofs.phis.check_phis.Goals as goal

pub is_full-requires-clause-node : goal.is_full-requires-clause-node
is_full-requires-clause-node c = node_listed c.args.graph.now c.args.nodes.now c.loop-node.node-index (record { number = 0 }) c.requires.nodes c.loop-node-test.true

pub node-requires : goal.node-requires
node-requires c = node_listed c.args.graph.now c.args.nodes.now c.loop-node.node-index (record { number = 0 }) c.requires.nodes c.loop-node-test.true

pub loop-node-preserved : goal.loop-node-preserved
loop-node-preserved c =
    let g = c.args.graph.now in
    let nodes = c.args.nodes.now in
    let at = c.loop-node.node-index in
    each_more (λ i. PhiIsFull g (node_of g.nodes (get_or (numbers nodes) i 0))) at c.loop-node.invariant
    (subst (λ n. PhiIsFull g (node_of g.nodes n)) (sym (number_at nodes at (record { number = 0 }) c.loop-node-test.true)) (agrees c.is_full.result c.if-not-is_full.false c.is_full.ensures))

pub returns-then-not-is_full-clause-some : goal.returns-then-not-is_full-clause-some
returns-then-not-is_full-clause-some c =
    phi (get_or c.args.nodes.now c.loop-node.node-index (record { number = 0 }))
    (breaks c.args.graph.now (λ (n : ℕ) (node : FirmNode). PhiIsFull c.args.graph.now node) (get_or c.args.nodes.now c.loop-node.node-index (record { number = 0 })).number c.node.result.block.number
    (node_listed c.args.graph.now c.args.nodes.now c.loop-node.node-index (record { number = 0 }) c.requires.nodes c.loop-node-test.true) c.node.ensures.block (refuses c.is_full.result c.if-not-is_full.true c.is_full.ensures))

pub returns-clause-none : goal.returns-clause-none
returns-clause-none c =
    let g = c.args.graph.now in
    at_nodes g (λ (n : ℕ) (node : FirmNode). PhiIsFull g node) c.args.nodes.now c.requires.nodes (λ i h. c.loop-node.invariant i (omega (arith, h, c.loop-node-test.false)))
