-- The table of a syntax tree: its nodes in post-order, kids before their parents.
use Rattle.std.specs.Prelude.{◌≡◌, ℕ, suc, ◌+◌, ◌<◌, ◌≤◌, List, [], ◌∷◌, ◌++◌, length, take, drop, reverse, slice_get, Option, Some}
use Rattle.std.specs.List.{AllByRecursion}
use Rattle.c_syntax.specs.declared.label.Label.{Label}
use Rattle.c_syntax.specs.declared.syntax.SynId.{SynId}
use Rattle.c_syntax.specs.declared.syntax.SynNode.{SynNode}
use Rattle.c_syntax.specs.Trees.{Tree, Forest, none, tree, one, forest_of, height, max_height}

-- how many nodes they have
abbrev pub size : Forest → ℕ
size none = 0
size (tree label kids rest) = size kids + 1 + size rest

-- the ids of their roots, where their nodes begin at this id: the root of each comes after all below it
abbrev pub roots : ℕ → Forest → List SynId
roots first none = []
roots first (tree label kids rest) = record { number = first + size kids } ∷ roots (first + size kids + 1) rest

-- a node with the ids of its kids
abbrev pub node_of : Label → List SynId → SynNode
node_of label kids =
    record { kind = label.kind; text = label.text; bytes = label.bytes; value = label.value; start = label.start; kids = kids }

-- their nodes, from this id on
abbrev pub nodes : ℕ → Forest → List SynNode
nodes first none = []
nodes first (tree label kids rest) =
    nodes first kids ++ (node_of label (roots first kids) ∷ nodes (first + size kids + 1) rest)

-- the table of a tree: the id of a node is its place, and the root is the last
abbrev pub table_of : Tree → List SynNode
table_of t = nodes 0 (tree t.label t.kids none)

-- for each of their nodes the lowest id of the tree that it is the root of
abbrev pub firsts : ℕ → Forest → List ℕ
firsts first none = []
firsts first (tree label kids rest) = firsts first kids ++ (first ∷ firsts (first + size kids + 1) rest)

-- these are the nodes of a tree of this height, with their lowest ids
pub record IsTable (nodes : List SynNode) (lowest : List ℕ) (high : ℕ) : Type 0 where
  pub of : Tree
  pub whole : nodes ≡ table_of of
  pub lowest_are : lowest ≡ firsts 0 (one of)
  pub highest : high ≡ height of
  pub low : high ≤ max_height

-- ---- the tree of a table

abbrev pub label_of : SynNode → Label
label_of n = record { kind = n.kind; text = n.text; bytes = n.bytes; value = n.value; start = n.start }

-- the roots after some nodes, the last first: each node takes as many roots as it has kids
abbrev pub built : List Tree → List SynNode → List Tree
built stack [] = stack
built stack (n ∷ rest) =
    let kids = take (length n.kids) stack in
    let own : Tree = record { label = label_of n; kids = forest_of (reverse kids) } in
    built (own ∷ drop (length n.kids) stack) rest

-- the trees that a table stands for, the last first
abbrev pub stack_of : List SynNode → List Tree
stack_of table = built [] table

-- the tree that a table stands for, where it is one
abbrev pub tree_of : List SynNode → Option Tree
tree_of table = slice_get (stack_of table) 0

-- these nodes are those of the trees that they stand for, with their lowest ids and the ids of the roots
pub record IsBegun (table : List SynNode) (lowest : List ℕ) (ids : List SynId) : Type 0 where
  pub nodes_are : table ≡ nodes 0 (forest_of (reverse (stack_of table)))
  pub lowest_are : lowest ≡ firsts 0 (forest_of (reverse (stack_of table)))
  pub roots_are : ids ≡ roots 0 (forest_of (reverse (stack_of table)))

-- there is one tree, and it has this height, which is within the limit
pub record IsWhole (stack : List Tree) (high : ℕ) : Type 0 where
  pub of : Tree
  pub alone : stack ≡ of ∷ []
  pub highest : high ≡ height of
  pub low : high ≤ max_height

-- ---- nodes of a table

-- the nodes with these ids are the roots of these trees
pub data StandAll (table : List SynNode) : List SynId → Forest → Type 0 where
  no_ids : StandAll table [] none
  and_id : (id : SynId) (ids : List SynId) (n : SynNode) (kids rest : Forest) → slice_get table id.number ≡ Some n
      → StandAll table n.kids kids → StandAll table ids rest → StandAll table (id ∷ ids) (tree (label_of n) kids rest)

-- the node with this id is the root of this tree
abbrev pub StandsFor : List SynNode → SynId → Tree → Type 0
StandsFor table id t = StandAll table (id ∷ []) (one t)

-- the node with this id is the root of a tree whose lowest nodes are, from this level on, within the limit
pub record StandsWithin (table : List SynNode) (id : SynId) (level : ℕ) : Type 0 where
  pub of : Tree
  pub stands : StandsFor table id of
  pub low : level + height of ≤ max_height

-- from this id on, kids come before their parents
abbrev pub InOrderFrom : ℕ → List SynNode → Type 0
InOrderFrom id [] = Unit {0}
InOrderFrom id (n ∷ rest) = AllByRecursion (λ (kid : SynId). kid.number < id) n.kids × InOrderFrom (suc id) rest

abbrev pub IsInOrder : List SynNode → Type 0
IsInOrder table = InOrderFrom 0 table
