-- The order of the first tokens, and how deep nodes stand.
use Rattle.std.specs.Prelude.{◌≡◌, ℕ, ◌+◌, ◌<◌, List, get_or, if◌then◌else◌, length, nat_lt}
use Rattle.c_syntax.specs.declared.syntax.SynNode.{SynNode}
use Rattle.c_syntax.specs.Trees.{one}
use Rattle.c_typing.specs.Places.{Node, node_at, by_first_token}
use Rattle.c_nodes.specs.Parents.{tree_in}

-- the numbers of the nodes of a table in the order of their first tokens
unfoldable pub order_in : List SynNode → List ℕ
order_in table = by_first_token 0 (one (tree_in table))

-- ---- how it is found

-- how deep the kids of a node stand, by the depths of nodes; where there is no such node, 0
abbrev pub depth_below : List ℕ → ℕ → ℕ
depth_below depths parent = if nat_lt parent (length depths) then get_or depths parent 0 + 1 else 0

-- the depth of a node is told
abbrev pub IsDeep : List Node → List ℕ → ℕ → Type 0
IsDeep s depths n = (get_or depths n 0 ≡ depth_below depths (node_at s n).parent) × (get_or depths n 0 + n < length depths)

-- for each node, how many nodes it stands below
pub record AreDepths (s : List Node) (depths : List ℕ) : Type 0 where
  pub long : length depths ≡ length s
  pub are : (n : ℕ) → n < length s → IsDeep s depths n
