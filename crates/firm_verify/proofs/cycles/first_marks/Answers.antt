use Rattle.std.proofs.Common.{sym, ◌∙◌, subst, take, ◌+◌}
use Rattle.firm_tables.specs.Nodes.{numbers}
use Rattle.firm_verify.proofs.GraphLaws.{node_listed}
use Rattle.firm_verify.proofs.MarkLaws.{FirstMarks, marks_phi, marks_more, marks_done}
use Rattle.firm_verify.proofs.cycles.first_marks.Goals as goal
use Rattle.firm_verify.proofs.cycles.first_marks.Goals.{then-not-is_phi+in_ok-set_at, else-not-is_phi}

pub node-requires : goal.node-requires
node-requires c = node_listed c.args.graph.now c.args.nodes.now c.loop-node.node-index (record { number = 0 }) c.requires.nodes c.loop-node-test.true

pub loop-node-preserved : goal.loop-node-preserved
loop-node-preserved c =
    let g = c.args.graph.now in
    let nodes = c.args.nodes.now in
    let at = c.loop-node.node-index in
    elim c.if-not-is_phi.branch [
      | then-not-is_phi+in_ok-set_at w ↦
          let set_now = w.in_ok-set_at.ensures {u = tt} in
          subst (λ l. FirstMarks g l.items (take (at + 1) (numbers nodes))) (sym w.left-is)
          (marks_more g nodes at (record { number = 0 }) c.loop-node.left.items w.set_at.new.table.items c.node.result.op c.loop-node-test.true c.node.ensures.op (sym c.is_phi.ensures ∙ w.if-not-is_phi.true)
          c.loop-node.invariant set_now.this set_now.others)
      | else-not-is_phi w ↦
          subst (λ l. FirstMarks g l.items (take (at + 1) (numbers nodes))) (sym w.left-is)
          (marks_phi g nodes at (record { number = 0 }) c.loop-node.left.items c.node.result.op c.loop-node-test.true c.node.ensures.op (sym c.is_phi.ensures ∙ w.if-not-is_phi.false) c.loop-node.invariant)
    ]

pub returns : goal.returns
returns c = marks_done c.args.graph.now c.args.nodes.now c.loop-node.node-index c.loop-node.left.items c.requires.nodes c.loop-node-test.false c.loop-node.invariant
