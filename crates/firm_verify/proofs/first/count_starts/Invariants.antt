use Rattle.std.proofs.Common.{◌≡◌, ◌≤◌, take}
use Rattle.firm_rules.specs.Rules.{is_start}
use Rattle.firm_tables.specs.Nodes.{numbers}
use Rattle.firm_verify.specs.Tables.{passing}
use Rattle.firm_verify.proofs.first.count_starts.Given as goal

abbrev pub invariant-loop-node : goal.invariant-loop-node
invariant-loop-node l = (l.count ≤ l.node-index) × (l.count ≡ passing l.graph is_start (take l.node-index (numbers l.nodes)))
