use Rattle.std.proofs.Common.{take}
use Rattle.firm_tables.specs.Nodes.{numbers}
use Rattle.firm_nodes.specs.Kept.{block_numbers}
use Rattle.firm_verify.proofs.GraphLaws.{AreNodesOf}
use Rattle.firm_verify.proofs.lists.all_nodes.Given as goal

abbrev pub invariant-loop-block : goal.invariant-loop-block
invariant-loop-block l = AreNodesOf l.graph (take l.block-index (block_numbers l.block-items)) (numbers l.nodes.items)
