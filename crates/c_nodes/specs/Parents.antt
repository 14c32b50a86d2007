-- The parents of the nodes of a table, and the tree that it stands for.
use Rattle.std.specs.Prelude.{◌≡◌, ℕ, suc, ◌+◌, ◌<◌, List, [], ◌∷◌, ◌++◌, length, slice_set, unwrap_or}
use Rattle.std.specs.List.{AllByRecursion}
use Rattle.c_syntax.specs.declared.kind.SynKind.TheVariants as kind
use Rattle.c_syntax.specs.declared.syntax.SynId.{SynId}
use Rattle.c_syntax.specs.declared.syntax.SynNode.{SynNode}
use Rattle.c_syntax.specs.Trees.{Tree, Forest, none, tree, one, plain_node}
use Rattle.c_syntax.specs.Tables.{size, table_of, tree_of}
use Rattle.c_typing.specs.Places.{Node, nodes, node_at}
use Rattle.c_nodes.specs.declared.nodes.Parent.{Parent}

-- the tree that a table stands for; of a table that stands for none, a node alone
abbrev pub tree_in : List SynNode → Tree
tree_in table = unwrap_or (tree_of table) (plain_node kind.Empty 0 none)

unfoldable pub nodes_in : List SynNode → List Node
nodes_in table = nodes (tree_in table)

-- each node has its place as its number
abbrev pub AreNumbered : List Node → Type 0
AreNumbered s = (n : ℕ) → n < length s → (node_at s n).id ≡ n

-- of a kid of this node, which has this index
abbrev pub kid_of : ℕ → ℕ → Parent
kid_of number index = record { number = number; index = index }

-- for the nodes of trees that begin at this number, in order, each one's parent; the i-th root has the i-th of `own`
abbrev pub parents_from : ℕ → (ℕ → Parent) → ℕ → Forest → List Parent
parents_from first own i none = []
parents_from first own i (tree label kids rest) =
    parents_from first (kid_of (first + size kids)) 0 kids ++ (own i ∷ parents_from (first + size kids + 1) own (suc i) rest)

abbrev pub parents_in : Tree → List Parent
parents_in t = parents_from 0 (λ i. kid_of (size (one t)) 0) 0 (one t)

-- a table of a tree, with the parents of its nodes
pub record IsKept (table : List SynNode) (parents : List Parent) : Type 0 where
  pub whole : table ≡ table_of (tree_in table)
  pub told : parents ≡ parents_in (tree_in table)

-- ---- how they are found

abbrev pub IsWithin : ℕ → List SynId → Type 0
IsWithin long kids = AllByRecursion (λ (kid : SynId). kid.number < long) kids

-- a node becomes the parent of kids, of which the first has this index
abbrev pub adopted : ℕ → ℕ → List SynId → List Parent → List Parent
adopted number index [] parents = parents
adopted number index (kid ∷ kids) parents = adopted number (suc index) kids (slice_set parents kid.number (kid_of number index))

-- each of the nodes becomes the parent of its kids, of which the first has this number
abbrev pub all_adopted : ℕ → List SynNode → List Parent → List Parent
all_adopted number [] parents = parents
all_adopted number (node ∷ nodes) parents = all_adopted (suc number) nodes (adopted number 0 node.kids parents)
