-- The objects of a unit.
use Rattle.std.specs.Prelude.{Vec, ◌≡◌, ℕ, ◌<◌, Bool, false, ◌&&◌, ◌==◌, List, [], Option, Some, None, codes, filter, find, get_or, if◌then◌else◌, length, map, nat_lt, slice_get}
use Rattle.std.specs.Option.{is_some}
use Rattle.std.specs.declared.alloc.Global.{Global}
use Rattle.c_syntax.specs.declared.syntax.SynNode.{SynNode}
use Rattle.c_typing.specs.Places.{node_at, says}
use Rattle.c_typing.specs.Names.{Name, Places, defines_object, earlier, is_again, is_defined_object, is_static, name_of, object_number, objects_of}
use Rattle.c_typing.specs.Typing.{declarations_of}
use Rattle.c_nodes.specs.Parents.{nodes_in}
use Rattle.c_names.specs.Denoted.{Among, IsDerived, places_in}

-- the object of a name is defined; a node that declares none has none
abbrev pub defined_at : Places → Option Name → Bool
defined_at p None = false
defined_at p (Some e) = is_defined_object p e

-- for each node
pub record AreDefined (table : List SynNode) (found : List Bool) : Type 0 where
  pub long : length found ≡ length table
  pub are : (i : ℕ) → i < length table → get_or found i false ≡ defined_at (places_in table) (name_of (places_in table) i)

abbrev pub number_at : Places → Option Name → Option ℕ
number_at p None = None
number_at p (Some e) = object_number p e

-- for each node, the number of the object that it declares
pub record AreNumbers (table : List SynNode) (found : List (Option ℕ)) : Type 0 where
  pub derived : IsDerived table
  pub nodes : length (nodes_in table) ≡ length table
  pub long : length found ≡ length table
  pub are : (i : ℕ) → i < length table → get_or found i None ≡ number_at (places_in table) (name_of (places_in table) i)

-- for each object, the nodes of its declarations
pub record AreDeclarations (table : List SynNode) (found : List (List ℕ)) : Type 0 where
  pub long : length found ≡ length (objects_of (places_in table))
  pub are : (k : ℕ) (e : Name) → slice_get (objects_of (places_in table)) k ≡ Some e → get_or found k [] ≡ map (λ (a : Name). a.node) (declarations_of (places_in table) e)

abbrev pub nodes_in_lists : List (Vec ℕ Global) → List (List ℕ)
nodes_in_lists lists = map (λ list. list.items) lists

-- ---- how they are found

-- for each node, specs or not, that `extern` is among its words
pub record AreExterns (table : List SynNode) (found : List Bool) : Type 0 where
  pub derived : IsDerived table
  pub long : length found ≡ length table
  pub nodes : length (nodes_in table) ≡ length table
  pub are : (i : ℕ) → i < length table → get_or found i false ≡ says (nodes_in table) (codes "extern") (node_at (nodes_in table) i)

abbrev pub defines_at : Places → Option Name → Bool
defines_at p None = false
defines_at p (Some e) = defines_object p e

-- for each first declaration
pub record AreDefining (table : List SynNode) (found : List Bool) : Type 0 where
  pub long : length found ≡ length table
  pub are : (r : Name) → Among r (places_in table).names → earlier (places_in table) r ≡ [] → get_or found r.node false ≡ is_defined_object (places_in table) r

-- so far, with the names of the nodes before the node n
pub record AreDefiningBefore (table : List SynNode) (n : ℕ) (found : List Bool) : Type 0 where
  pub long : length found ≡ length table
  pub are : (r : Name) → Among r (places_in table).names → earlier (places_in table) r ≡ []
      → get_or found r.node false ≡ is_some (find (λ a. (is_again a r && defines_object (places_in table) a) && nat_lt a.node n) (places_in table).names)

-- the node of a first declaration is the one with this number
abbrev pub is_number : Option ℕ → ℕ → Bool
is_number None n = false
is_number (Some m) n = m == n

abbrev pub is_object : Places → Name → Bool
is_object p e = is_static e.entity && length (earlier p e) == 0 && is_defined_object p e

-- the name is that of an object, declared first
abbrev pub object_at : Places → Option Name → Bool
object_at p None = false
object_at p (Some e) = is_object p e

-- the objects of the nodes before this one
abbrev pub objects_before : Places → ℕ → List Name
objects_before p n = filter (λ e. is_object p e && nat_lt e.node n) p.names

abbrev pub number_of_first : Places → Option Name → Option ℕ
number_of_first p None = None
number_of_first p (Some e) = if is_object p e then Some (length (objects_before p e.node)) else None

-- for each node that declares an object first, its number
pub record AreNumbersOfFirsts (table : List SynNode) (found : List (Option ℕ)) : Type 0 where
  pub long : length found ≡ length table
  pub are : (i : ℕ) → i < length table → get_or found i None ≡ number_of_first (places_in table) (name_of (places_in table) i)

-- for each object, the nodes before this one that declare it
pub record AreDeclarationsBefore (table : List SynNode) (n : ℕ) (found : List (List ℕ)) : Type 0 where
  pub long : length found ≡ length (objects_of (places_in table))
  pub are : (k : ℕ) (o : Name) → slice_get (objects_of (places_in table)) k ≡ Some o
      → get_or found k [] ≡ map (λ (a : Name). a.node) (filter (λ a. is_again a o && nat_lt a.node n) (places_in table).names)
