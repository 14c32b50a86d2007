use Rattle.std.proofs.Common.{◌<◌, ℕ, get_or}
use Rattle.firm_verify.proofs.CountsLaws.{NodeFits}
use Rattle.firm_tables.specs.Nodes.{numbers}
use Rattle.firm_verify.proofs.counts.unfit_node.Given as goal

abbrev pub invariant-loop-node : goal.invariant-loop-node
invariant-loop-node l = (i : ℕ) → i < l.node-index → NodeFits l.graph (get_or (numbers l.nodes) i 0)
