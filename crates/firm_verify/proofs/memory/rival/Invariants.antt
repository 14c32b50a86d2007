use Rattle.std.proofs.Common.{take}
use Rattle.firm_tables.specs.Nodes.{numbers}
use Rattle.firm_verify.proofs.RivalLaws.{OwnersOf}
use Rattle.firm_verify.proofs.memory.rival.Given as goal

abbrev pub invariant-loop-node : goal.invariant-loop-node
invariant-loop-node l = OwnersOf l.graph l.sort (take l.node-index (numbers l.nodes)) l.owners.items
