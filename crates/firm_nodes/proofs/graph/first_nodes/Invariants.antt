use Rattle.std.proofs.Common.{◌≡◌}
use Rattle.firm_nodes.specs.Calls.{entry}
use Rattle.firm_nodes.proofs.graph.first_nodes.Given as goal

abbrev pub invariant-loop-param : goal.invariant-loop-param
invariant-loop-param l = l.nodes ≡ entry l.param
