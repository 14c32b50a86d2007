use Rattle.std.proofs.Common.{◌+◌, true≢false, take, sym, ap, ◌∙◌, subst}
use Rattle.firm_rules.specs.Rules.{is_start}
use Rattle.firm_tables.specs.Nodes.{numbers}
use Rattle.firm_verify.proofs.GraphLaws.{node_listed}
use Rattle.firm_verify.proofs.LastLaws.{IsLowest, lowest_more, no_lowest, lowest_pass, start_is}
use Rattle.firm_verify.proofs.chains.first_start.Goals as goal
use Rattle.firm_verify.proofs.chains.first_start.Goals.{then-is_start+then-is_lower, then-is_start+else-is_lower, else-is_start}

pub node-requires : goal.node-requires
node-requires c = node_listed c.args.graph.now c.args.nodes.now c.loop-node.node-index (record { number = 0 }) c.requires c.loop-node-test.true

pub loop-node-preserved : goal.loop-node-preserved
loop-node-preserved c =
    let g = c.args.graph.now in
    let nodes = c.args.nodes.now in
    let at = c.loop-node.node-index in
    elim c.if-is_start.branch [
      | then-is_start+then-is_lower w ↦ subst (IsLowest g (take (at + 1) (numbers nodes))) (sym w.found-is)
          (lowest_more g nodes at (record { number = 0 }) c.loop-node.found c.loop-node-test.true (node_listed g nodes at (record { number = 0 }) c.requires c.loop-node-test.true)
          (ap is_start (sym c.node.ensures.op) ∙ sym c.is_start.ensures ∙ w.if-is_start.true) (sym w.is_lower.ensures ∙ w.if-is_lower.true) c.loop-node.invariant)
      | then-is_start+else-is_lower w ↦ subst (IsLowest g (take (at + 1) (numbers nodes))) (sym w.found-is)
          (lowest_pass g nodes at (record { number = 0 }) c.loop-node.found c.loop-node-test.true (λ start. sym w.is_lower.ensures ∙ w.if-is_lower.false) c.loop-node.invariant)
      | else-is_start w ↦ subst (IsLowest g (take (at + 1) (numbers nodes))) (sym w.found-is)
          (lowest_pass g nodes at (record { number = 0 }) c.loop-node.found c.loop-node-test.true
          (λ start. absurd (true≢false (sym start ∙ ap is_start (sym c.node.ensures.op) ∙ sym c.is_start.ensures ∙ w.if-is_start.false))) c.loop-node.invariant)
    ]

pub returns : goal.returns
returns c = c.or_zero.ensures ∙ start_is c.args.graph.now c.args.nodes.now c.loop-node.node-index c.loop-node.found c.requires c.loop-node-test.false c.loop-node.invariant

pub loop-node-init : goal.loop-node-init
loop-node-init c = no_lowest c.args.graph.now
