use Rattle.firm_verify.proofs.GraphLaws.{node_listed}
use Rattle.firm_verify.proofs.CountsLaws.{no_modes, modes_more, modes_done}
use Rattle.std.proofs.Common.{◌∙◌, ap}
use Rattle.firm_rules.specs.Graphs.{mode_of}
use Rattle.firm_verify.proofs.counts.modes_of.Goals as goal

pub loop-node-init : goal.loop-node-init
loop-node-init c = no_modes c.args.graph.now c.new-modes.result.items c.new-modes.ensures.items

pub node-requires : goal.node-requires
node-requires c = node_listed c.args.graph.now c.args.nodes.now c.loop-node.node-index (record { number = 0 }) c.requires.nodes c.loop-node-test.true

pub loop-node-preserved : goal.loop-node-preserved
loop-node-preserved c =
    let set = c.in_ok-set_at.ensures {u = tt} in
    modes_more c.args.graph.now c.args.nodes.now c.loop-node.node-index (record { number = 0 }) c.loop-node.modes.items c.set_at.new.table.items c.mode_of-mode.result c.requires.nodes c.loop-node-test.true
    (node_listed c.args.graph.now c.args.nodes.now c.loop-node.node-index (record { number = 0 }) c.requires.nodes c.loop-node-test.true) c.loop-node.invariant (c.mode_of-mode.ensures ∙ ap mode_of c.node.ensures.op) set.this set.others

pub returns : goal.returns
returns c = modes_done c.args.graph.now c.args.nodes.now c.loop-node.node-index c.loop-node.modes.items c.requires.nodes c.loop-node-test.false c.loop-node.invariant
