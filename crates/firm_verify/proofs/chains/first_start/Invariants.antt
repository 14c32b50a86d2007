use Rattle.std.proofs.Common.{take}
use Rattle.firm_tables.specs.Nodes.{numbers}
use Rattle.firm_verify.proofs.LastLaws.{IsLowest}
use Rattle.firm_verify.proofs.chains.first_start.Given as goal

abbrev pub invariant-loop-node : goal.invariant-loop-node
invariant-loop-node l = IsLowest l.graph (take l.node-index (numbers l.nodes)) l.found
