use Rattle.std.proofs.Common.{take}
use Rattle.firm_tables.specs.Nodes.{numbers}
use Rattle.firm_verify.proofs.LastLaws.{LastsOf}
use Rattle.firm_verify.proofs.chains.lasts_of.Given as goal

abbrev pub invariant-loop-node : goal.invariant-loop-node
invariant-loop-node l = LastsOf l.graph (take l.node-index (numbers l.nodes)) l.lasts.items
