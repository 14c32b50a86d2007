-- The first declarations of names in their scopes.
use Rattle.std.specs.Prelude.{◌≡◌, ℕ, ◌<◌, true, List, [], Option, Some, None, get_or, length}
use Rattle.c_syntax.specs.declared.syntax.SynNode.{SynNode}
use Rattle.c_typing.specs.Names.{Name, Places, earlier, is_again, name_of}
use Rattle.c_nodes.specs.Parents.{nodes_in}
use Rattle.c_names.specs.Denoted.{Among, IsDerived, places_in}
use Rattle.c_names.specs.Names.{begun_at}

-- the node declares a name that is this one declared before, and that declares none again
pub record IsFirst (p : Places) (e : Name) (node : ℕ) : Type 0 where
  pub first : Name
  pub among : Among first p.names
  pub at : first.node ≡ node
  pub again : is_again first e ≡ true
  pub before : earlier p first ≡ []

-- of a name its first declaration; a node that declares none has none
abbrev pub HasFirst : List SynNode → Option Name → Option ℕ → Type 0
HasFirst table None found = found ≡ None
HasFirst table (Some e) found = (node : ℕ) × (found ≡ Some node) × IsFirst (places_in table) e node

pub record AreFirsts (table : List SynNode) (found : List (Option ℕ)) : Type 0 where
  pub derived : IsDerived table
  pub nodes : length (nodes_in table) ≡ length table
  pub long : length found ≡ length table
  pub are : (i : ℕ) → i < length table → HasFirst table (name_of (places_in table) i) (get_or found i None)

-- ---- how they are found

-- so far, with the names that begin before the node n
pub record AreFirstsBefore (table : List SynNode) (n : ℕ) (found : List (Option ℕ)) : Type 0 where
  pub derived : IsDerived table
  pub nodes : length (nodes_in table) ≡ length table
  pub long : length found ≡ length table
  pub are : (i : ℕ) → i < length table → HasFirst table (begun_at n (name_of (places_in table) i)) (get_or found i None)
