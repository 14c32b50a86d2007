use Rattle.std.proofs.Common.{◌≡◌, ℕ, [], get_or}
use Rattle.firm_verify.specs.Broken.{cycle}
use Rattle.firm_verify.proofs.GraphLaws.{node_listed, breaks}
use Rattle.firm_rules.specs.Graphs.{FirmNode}
use Rattle.firm_rules.specs.Rules.{Leads}
use Rattle.firm_nodes.specs.Calls.{IsNode}
use Rattle.firm_verify.specs.Marks.{AreMarks, NoneMore}
use Rattle.firm_verify.proofs.EdgeLaws.{some_at, none_at}
use Rattle.firm_verify.proofs.MarkLaws.{all_ended, ended_more}
use Rattle.firm_verify.proofs.cycles.check_cycles.Goals as goal

pub cycle_from-requires-clause-start : goal.cycle_from-requires-clause-start
cycle_from-requires-clause-start c = node_listed c.args.graph.now c.args.nodes.now c.loop-node.node-index (record { number = 0 }) c.requires.nodes c.loop-node-test.true

pub returns-in-Some-clause-some : goal.returns-in-Some-clause-some
returns-in-Some-clause-some c =
    let g = c.args.graph.now in
    let found = c.in_ok-number.ensures {u = tt} in
    let n = c.in-Some.number in
    let leads = some_at c.in_ok-number.field-0 (λ k. Leads g k k) n c.in-Some.is found.cycle in
    cycle (record { number = n })
    (breaks g (λ (k : ℕ) (node : FirmNode). Leads g k k → ⊥) n c.node.result.block.number (some_at c.in_ok-number.field-0 (IsNode g) n c.in-Some.is found.some) c.node.ensures.block (λ free. free leads))

pub loop-node-preserved : goal.loop-node-preserved
loop-node-preserved c =
    let g = c.args.graph.now in
    let found = c.in_ok-number.ensures {u = tt} in
    let left = c.loop-node.left.items in
    let after = c.cycle_from.new.left.items in
    let n = (get_or c.args.nodes.now c.loop-node.node-index (record { number = 0 })).number in (
      none_at c.in_ok-number.field-0 (AreMarks g after []) c.in_default.is found.marks,
      ended_more c.args.nodes.now c.loop-node.node-index (record { number = 0 }) left after c.loop-node-test.true c.loop-node.invariant.1
          (none_at c.in_ok-number.field-0 (NoneMore left after) c.in_default.is found.stay) (none_at c.in_ok-number.field-0 (get_or after n 0 ≡ 0) c.in_default.is found.ended),
    )

pub returns-clause-none : goal.returns-clause-none
returns-clause-none c = all_ended c.args.graph.now c.args.nodes.now c.loop-node.node-index c.loop-node.left.items c.requires.nodes c.loop-node.invariant.0 c.loop-node-test.false c.loop-node.invariant.1
