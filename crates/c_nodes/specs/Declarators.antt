-- The numbers of declarators and of their parts.
use Rattle.std.specs.Prelude.{◌≡◌, ℕ, ◌<◌, List, Option, Some, None, filter, get_or, length}
use Rattle.std.specs.List.{last_or}
use Rattle.c_syntax.specs.declared.syntax.SynNode.{SynNode}
use Rattle.c_nodes.specs.Parents.{AreNumbered, nodes_in}
use Rattle.c_typing.specs.Places.{Node, node_at, in_declarator, next_to_name}

-- the number of a node, where there is one
abbrev pub number_or : ℕ → Option Node → ℕ
number_or none None = none
number_or none (Some node) = node.id

-- a number is that of a node; where there is none, the number of nodes
abbrev pub Points : List Node → ℕ → Option Node → Type 0
Points s n None = n ≡ length s
Points s n (Some node) = (n < length s) × (node_at s n ≡ node)

-- the whole declarator that begins with this node, where there is one
abbrev pub whole_of : List Node → ℕ → Option Node
whole_of s i = last_or None (filter (in_declarator i) s)

-- for each node of a table, the declarator that begins with it
pub record AreWholes (table : List SynNode) (found : List ℕ) : Type 0 where
  pub long : length found ≡ length table
  pub nodes : length (nodes_in table) ≡ length table
  pub points : (i : ℕ) → i < length table → Points (nodes_in table) (get_or found i 0) (whole_of (nodes_in table) i)

-- the part next to it
pub record AreNext (table : List SynNode) (found : List ℕ) : Type 0 where
  pub long : length found ≡ length table
  pub nodes : length (nodes_in table) ≡ length table
  pub numbered : AreNumbered (nodes_in table)
  pub points : (i : ℕ) → i < length table → Points (nodes_in table) (get_or found i 0) (next_to_name (nodes_in table) i)

-- ---- how they are found

abbrev pub whole_number : List Node → ℕ → ℕ
whole_number s i = number_or (length s) (whole_of s i)

abbrev pub next_number : List Node → ℕ → ℕ
next_number s i = number_or (length s) (next_to_name s i)
