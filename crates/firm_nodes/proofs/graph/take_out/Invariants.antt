use Rattle.std.proofs.Common.{◌≤◌, ◌-◌}
use Rattle.firm_nodes.specs.Kept.{block_numbers}
use Rattle.firm_nodes.proofs.OrderLaws.{place}
use Rattle.firm_nodes.proofs.graph.take_out.Given as goal

abbrev pub invariant-loop-place : goal.invariant-loop-place
invariant-loop-place l = l.place ≤ place l.block (block_numbers l.order.items)

abbrev pub decreases-loop-place : goal.decreases-loop-place
decreases-loop-place l = place l.block (block_numbers l.order.items) - l.place
