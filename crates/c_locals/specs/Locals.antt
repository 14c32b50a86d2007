-- The functions that nodes stand in, and the numbers of their locals.
use Rattle.std.specs.Prelude.{◌≡◌, ℕ, ◌+◌, ◌<◌, ◌≤◌, Bool, true, false, ◌&&◌, List, Option, Some, None, filter, find, get_or, if◌then◌else◌, length, nat_lt}
use Rattle.c_syntax.specs.declared.syntax.SynNode.{SynNode}
use Rattle.c_typing.specs.Places.{holds, node_at}
use Rattle.c_typing.specs.Names.{Entity, automatic, parameter, Name, Places, function_around, is_automatic, local_number, name_of}
use Rattle.c_nodes.specs.Parents.{AreNumbered, nodes_in}
use Rattle.c_nodes.specs.Declarators.{Points}
use Rattle.c_names.specs.declared.names.DeclaredName.{DeclaredName}
use Rattle.c_names.specs.Names.{entity_of}
use Rattle.c_names.specs.Denoted.{places_in}

-- for each node of a table, the function that it stands in; where there is none, the number of nodes
pub record AreOwners (table : List SynNode) (found : List ℕ) : Type 0 where
  pub long : length found ≡ length table
  pub nodes : length (nodes_in table) ≡ length table
  pub points : (i : ℕ) → i < length table → Points (nodes_in table) (get_or found i 0) (find (λ f. holds f i) (places_in table).functions)
  pub are : (i : ℕ) → i < length table → function_around (places_in table) i ≡ node_at (nodes_in table) (get_or found i 0)

-- the automatic objects that stand before the node n
abbrev pub automatics_before : Places → ℕ → List Name
automatics_before p n = filter (λ e. is_automatic e.entity && nat_lt e.node n) p.names

-- for each node, and for the number of nodes, how many stand before it
pub record AreCounts (table : List SynNode) (counts : List ℕ) : Type 0 where
  pub long : length counts ≡ length table + 1
  pub numbered : AreNumbered (nodes_in table)
  pub nodes : length (nodes_in table) ≡ length table
  pub are : (n : ℕ) → n ≤ length table → get_or counts n 0 ≡ length (automatics_before (places_in table) n)
  pub few : (n : ℕ) → n ≤ length table → get_or counts n 0 ≤ n

abbrev pub is_local : Entity → Bool
is_local automatic = true
is_local (parameter i) = true
is_local e = false

-- the number of a name of a local; another name has none
abbrev pub number_of : Places → Option Name → Option ℕ
number_of p None = None
number_of p (Some e) = if is_local e.entity then Some (local_number p e) else None

-- for each node, the number of the local that it declares
pub record AreNumbers (table : List SynNode) (found : List (Option ℕ)) : Type 0 where
  pub long : length found ≡ length table
  pub are : (i : ℕ) → i < length table → get_or found i None ≡ number_of (places_in table) (name_of (places_in table) i)

-- ---- how they are found

abbrev pub declares_automatic : Option DeclaredName → Bool
declares_automatic None = false
declares_automatic (Some d) = is_automatic (entity_of d.entity)

-- the node declares an automatic object
abbrev pub DeclaresAutomatic : List SynNode → ℕ → Type 0
DeclaresAutomatic table n = (e : Name) × (name_of (places_in table) n ≡ Some e) × (is_automatic e.entity ≡ true)
