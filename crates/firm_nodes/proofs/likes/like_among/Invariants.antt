use Rattle.std.proofs.Common.{◌<◌, ℕ, get_or}
use Rattle.firm_tables.specs.Nodes.{numbers, IsLike}
use Rattle.firm_nodes.proofs.likes.like_among.Given as goal

abbrev pub invariant-loop-user : goal.invariant-loop-user
invariant-loop-user l = (index : ℕ) → index < l.user-index → IsLike l.nodes l.op l.block (numbers l.operands) (get_or l.users index 0) → ⊥
