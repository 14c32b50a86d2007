use Rattle.std.proofs.Common.{◌≡◌, ◌<◌, ℕ, [], get_or}
use Rattle.firm_tables.specs.Nodes.{numbers}
use Rattle.firm_verify.specs.Marks.{AreMarks}
use Rattle.firm_verify.proofs.cycles.check_cycles.Given as goal

abbrev pub invariant-loop-node : goal.invariant-loop-node
invariant-loop-node l = AreMarks l.graph l.left.items [] × ((i : ℕ) → i < l.node-index → get_or l.left.items (get_or (numbers l.nodes) i 0) 0 ≡ 0)
