-- The nodes of a derived tree by their places: their shapes, their lowest nodes and their parents.
use Rattle.std.specs.Prelude.{◌≡◌, ℕ, ◌+◌, true, List, [], ◌∷◌, ◌++◌, map, Some, slice_get, get_or}
use Rattle.c_syntax.specs.declared.syntax.SynId.{SynId}
use Rattle.c_syntax.specs.declared.syntax.SynNode.{SynNode}
use Rattle.c_syntax.specs.Trees.{Tree}
use Rattle.c_syntax.specs.Tables.{node_of, table_of}
use Rattle.c_typing.specs.Places.{Node, nodes}
use Rattle.c_typing.specs.Shapes.{Category, no_category, categories_of, Fits, begins_with, stands_in}

abbrev pub as_id : ℕ → SynId
as_id n = record { number = n }

-- a node as it stands in the table
abbrev pub in_table : Node → SynNode
in_table m = node_of m.label (map as_id m.kids)

-- the category of the node at a place
abbrev pub category_at : Tree → ℕ → Category
category_at t n = get_or (categories_of (table_of t)) n no_category

-- the node at this place has the place as its number, its shape, and a lowest node, which is a name where it is a declarator
pub record IsPlaced (t : Tree) (n : ℕ) (m : Node) : Type 0 where
  pub numbered : m.id ≡ n
  pub fits : Fits (categories_of (table_of t)) n (in_table m)
  pub lowest : Node
  pub found : slice_get (nodes t) m.first ≡ Some lowest
  pub begins : begins_with (category_at t n) lowest.label.kind ≡ true

-- the lowest node behind these kids of a node whose lowest node is `first`
abbrev pub first_behind : ℕ → List ℕ → ℕ
first_behind first [] = first
first_behind first (kid ∷ kids) = first_behind (kid + 1) kids

-- it is among the kids of its parent, which may have it; its nodes begin behind those of the kids before it
pub record HasParent (t : Tree) (n : ℕ) (m : Node) : Type 0 where
  pub parent : Node
  pub found : slice_get (nodes t) m.parent ≡ Some parent
  pub front : List ℕ
  pub back : List ℕ
  pub among : parent.kids ≡ front ++ (n ∷ back)
  pub begins : m.first ≡ first_behind parent.first front
  pub stands : stands_in (category_at t n) parent.label.kind ≡ true
