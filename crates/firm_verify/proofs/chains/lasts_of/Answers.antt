use Rattle.std.proofs.Common.{◌+◌, take, sym, subst}
use Rattle.firm_tables.specs.Nodes.{numbers}
use Rattle.firm_verify.proofs.GraphLaws.{node_listed}
use Rattle.firm_verify.proofs.LastLaws.{LastsOf, no_lasts, lasts_pass, lasts_more, lasts_all}
use Rattle.firm_verify.proofs.chains.lasts_of.Goals as goal
use Rattle.firm_verify.proofs.chains.lasts_of.Goals.{then-is_last+in_ok-set_at, else-is_last}

pub is_last-requires-clause-node : goal.is_last-requires-clause-node
is_last-requires-clause-node c = node_listed c.args.graph.now c.args.nodes.now c.loop-node.node-index (record { number = 0 }) c.requires.nodes c.loop-node-test.true

pub node-requires : goal.node-requires
node-requires c = node_listed c.args.graph.now c.args.nodes.now c.loop-node.node-index (record { number = 0 }) c.requires.nodes c.loop-node-test.true

pub loop-node-preserved : goal.loop-node-preserved
loop-node-preserved c =
    let g = c.args.graph.now in
    let nodes = c.args.nodes.now in
    let at = c.loop-node.node-index in
    elim c.if-is_last.branch [
      | then-is_last+in_ok-set_at w ↦
          let set_now = w.in_ok-set_at.ensures {u = tt} in
          subst (λ l. LastsOf g (take (at + 1) (numbers nodes)) l.items) (sym w.lasts-is)
          (lasts_more g nodes at (record { number = 0 }) c.loop-node.lasts.items w.set_at.new.table.items w.node.result.block.number c.is_last.result c.loop-node-test.true w.if-is_last.true c.is_last.ensures
          w.node.ensures.block set_now.this set_now.others c.loop-node.invariant)
      | else-is_last w ↦ subst (λ l. LastsOf g (take (at + 1) (numbers nodes)) l.items) (sym w.lasts-is)
          (lasts_pass g nodes at (record { number = 0 }) c.loop-node.lasts.items c.is_last.result c.loop-node-test.true w.if-is_last.false c.is_last.ensures c.loop-node.invariant)
    ]

pub returns : goal.returns
returns c = lasts_all c.args.graph.now c.args.nodes.now c.loop-node.node-index c.loop-node.lasts.items c.requires.nodes c.loop-node-test.false c.loop-node.invariant

pub loop-node-init : goal.loop-node-init
loop-node-init c = no_lasts c.args.graph.now c.new-lasts.result.items c.new-lasts.ensures.items
