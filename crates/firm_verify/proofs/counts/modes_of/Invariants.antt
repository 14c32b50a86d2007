use Rattle.std.proofs.Common.{take}
use Rattle.firm_tables.specs.Nodes.{numbers}
use Rattle.firm_verify.proofs.CountsLaws.{AreModesOf}
use Rattle.firm_verify.proofs.counts.modes_of.Given as goal

abbrev pub invariant-loop-node : goal.invariant-loop-node
invariant-loop-node l = AreModesOf l.graph (take l.node-index (numbers l.nodes)) l.modes.items
