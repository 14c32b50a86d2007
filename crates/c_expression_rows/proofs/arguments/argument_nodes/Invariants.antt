-- Those before this one were put.
use Rattle.std.proofs.Common.{◌≡◌, ℕ, suc, drop}
use Rattle.std.specs.Prelude.{take}
use Rattle.c_meanings.specs.Meanings.{node_in}
use Rattle.c_expression_rows.proofs.arguments.argument_nodes.Given as goal

abbrev pub invariant-loop-index : goal.invariant-loop-index
invariant-loop-index l = (k : ℕ) × (l.index ≡ suc k) × (l.found.items ≡ take k (drop 1 (node_in l.nodes l.node).kids))
