use Rattle.std.proofs.Common.{◌≡◌, take}
use Rattle.firm_tables.specs.Nodes.{numbers}
use Rattle.firm_text.proofs.numbers.listed.Given as goal

abbrev pub invariant-loop-node : goal.invariant-loop-node
invariant-loop-node l = l.list.items ≡ numbers (take l.node-index l.nodes)
