use Rattle.std.proofs.Common.{◌≡◌, ◌<◌, ℕ, length, get_or}
use Rattle.firm_tables.specs.Nodes.{numbers}
use Rattle.firm_tables.proofs.nodes.are_numbers.Given as goal

abbrev pub invariant-loop-index : goal.invariant-loop-index
invariant-loop-index l = ((k : ℕ) → k < l.index → get_or l.list k 0 ≡ get_or (numbers l.nodes) k 0) × (l.index-end ≡ length l.list)
