use Rattle.std.proofs.Common.{take}
use Rattle.firm_tables.specs.Nodes.{numbers}
use Rattle.firm_verify.proofs.MarkLaws.{FirstMarks}
use Rattle.firm_verify.proofs.cycles.first_marks.Given as goal

abbrev pub invariant-loop-node : goal.invariant-loop-node
invariant-loop-node l = FirstMarks l.graph l.left.items (take l.node-index (numbers l.nodes))
