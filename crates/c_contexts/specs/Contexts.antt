-- Which nodes are called, and which specs stand before a function.
use Rattle.std.specs.Prelude.{◌≡◌, ℕ, ◌<◌, ◌≤◌, Bool, false, ◌&&◌, ◌==◌, List, find, get_or, length, nat_lt}
use Rattle.std.specs.Option.{is_some}
use Rattle.c_syntax.specs.declared.syntax.SynNode.{SynNode}
use Rattle.c_typing.specs.Places.{node_at, specs_of}
use Rattle.c_typing.specs.Expressions.{is_called}
use Rattle.c_typing.specs.Typing.{stand_before_function}
use Rattle.c_nodes.specs.Parents.{AreNumbered, nodes_in}
use Rattle.c_names.specs.Denoted.{IsDerived, places_in}

-- for each node, that it is called where it is the name of a function
pub record AreCalled (table : List SynNode) (found : List Bool) : Type 0 where
  pub long : length found ≡ length table
  pub are : (i : ℕ) → i < length table → get_or found i false ≡ is_called (places_in table) (length (nodes_in table)) i

-- ---- how they are found

-- for the nodes from this one on
pub record AreCalledFrom (table : List SynNode) (n : ℕ) (found : List Bool) : Type 0 where
  pub numbered : AreNumbered (nodes_in table)
  pub nodes : length (nodes_in table) ≡ length table
  pub long : length found ≡ length table
  pub are : (i : ℕ) → n ≤ i → i < length table → get_or found i false ≡ is_called (places_in table) (length (nodes_in table)) i

-- for each node that is specs, that a name of a function stands behind it
pub record AreFunctionSpecs (table : List SynNode) (found : List Bool) : Type 0 where
  pub long : length found ≡ length table
  pub are : (i : ℕ) → i < length table → get_or found i false ≡ stand_before_function (places_in table) (node_at (nodes_in table) i)

-- so far, with the names of the nodes before the node n
pub record AreFunctionSpecsBefore (table : List SynNode) (n : ℕ) (found : List Bool) : Type 0 where
  pub derived : IsDerived table
  pub nodes : length (nodes_in table) ≡ length table
  pub long : length found ≡ length table
  pub are : (i : ℕ) → i < length table
      → get_or found i false ≡ is_some (find (λ e. (e.is_function && (specs_of (nodes_in table) (node_at (nodes_in table) e.owner)).id == i) && nat_lt e.node n) (places_in table).names)
