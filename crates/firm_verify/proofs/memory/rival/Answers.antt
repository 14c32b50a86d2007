use Rattle.std.proofs.Common.{get_or, sym, ◌∙◌}
use Rattle.firm_verify.proofs.GraphLaws.{node_listed}
use Rattle.firm_verify.proofs.RivalLaws.{no_owners, owners_pass, owners_more, owners_all, rival_by, same_by}
use Rattle.firm_verify.proofs.memory.rival.Goals as goal

pub loop-node-init : goal.loop-node-init
loop-node-init c = no_owners c.args.graph.now c.args.sort c.args.owners.now.items c.requires.empty

pub key_of-requires-clause-node : goal.key_of-requires-clause-node
key_of-requires-clause-node c = node_listed c.args.graph.now c.args.nodes.now c.loop-node.node-index (record { number = 0 }) c.requires.nodes c.loop-node-test.true

pub loop-node-preserved-in_default : goal.loop-node-preserved-in_default
loop-node-preserved-in_default c =
    owners_pass c.args.graph.now c.args.sort c.args.nodes.now c.loop-node.node-index (record { number = 0 }) c.loop-node.owners.items c.loop-node-test.true (sym c.key_of.ensures ∙ c.in_default.is) c.loop-node.invariant

pub returns-then-has_other-clause-some : goal.returns-then-has_other-clause-some
returns-then-has_other-clause-some c =
    rival_by c.args.graph.now c.args.sort c.args.nodes.now c.loop-node.node-index (get_or c.args.nodes.now c.loop-node.node-index (record { number = 0 })).number c.in-Some.key c.loop-node.owners.items c.deref.result.now c.has_other.result c.loop-node.invariant (node_listed c.args.graph.now c.args.nodes.now c.loop-node.node-index (record { number = 0 }) c.requires.nodes c.loop-node-test.true) (sym c.key_of.ensures ∙ c.in-Some.is)
    c.deref.ensures.value c.if-has_other.true c.has_other.ensures

pub loop-node-preserved : goal.loop-node-preserved
loop-node-preserved c =
    let set_now = c.in_ok-set_at.ensures {u = tt} in
    owners_more c.args.graph.now c.args.sort c.args.nodes.now c.loop-node.node-index (record { number = 0 }) c.loop-node.owners.items c.set_at.new.table.items c.in-Some.key c.loop-node-test.true
    (node_listed c.args.graph.now c.args.nodes.now c.loop-node.node-index (record { number = 0 }) c.requires.nodes c.loop-node-test.true, sym c.key_of.ensures ∙ c.in-Some.is) (same_by (get_or c.args.nodes.now c.loop-node.node-index (record { number = 0 })).number c.in-Some.key c.loop-node.owners.items c.deref.result.now c.has_other.result c.deref.ensures.value c.if-has_other.false c.has_other.ensures)
    set_now.this set_now.others c.loop-node.invariant

pub returns-clause-none : goal.returns-clause-none
returns-clause-none c = owners_all c.args.graph.now c.args.sort c.args.nodes.now c.loop-node.node-index c.loop-node.owners.items c.requires.nodes c.loop-node-test.false c.loop-node.invariant
