use Rattle.std.proofs.Common.{◌<◌, [], ℕ, get_or}
use Rattle.firm_tables.specs.Nodes.{numbers, IsLike}
use Rattle.firm_nodes.proofs.likes.like_in.Given as goal

abbrev pub invariant-loop-node : goal.invariant-loop-node
invariant-loop-node l = (index : ℕ) → index < l.node-index → IsLike l.nodes l.op l.block [] (get_or (numbers l.alike) index 0) → ⊥
