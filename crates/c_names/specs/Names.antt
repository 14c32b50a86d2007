-- What the nodes of a table declare.
use Rattle.std.specs.Prelude.{◌≡◌, ℕ, ◌<◌, Bool, false, List, Option, Some, None, ◌&&◌, ◌||◌, codes, get_or, if◌then◌else◌, length, nat_lt, option_map}
use Rattle.c_syntax.specs.declared.syntax.SynNode.{SynNode}
use Rattle.c_typing.specs.Places.{Node, is_word, kind_at, node_at, text_at, says}
use Rattle.c_typing.specs.Names as rules
use Rattle.c_typing.specs.Names.{Name, denoted, Entity, typedef_name, function_name, static_object, automatic, parameter, enumerator, says_function, is_typedef, name_of}
use Rattle.c_nodes.specs.Parents.{nodes_in}
use Rattle.c_nodes.specs.Scopes.{scope_of}
use Rattle.c_names.specs.declared.names.DeclaredName.{DeclaredName}
use Rattle.c_names.specs.declared.names.Entity.{Entity as CodeEntity}
use Rattle.c_names.specs.declared.names.Entity.TheVariants as code
use Rattle.c_names.specs.declared.words.SpecWords.{SpecWords}
use Rattle.c_names.specs.Denoted.{IsDerived, places_in}

abbrev pub entity_of : CodeEntity → Entity
entity_of code.Typedef = typedef_name
entity_of code.Function = function_name
entity_of code.Static = static_object
entity_of code.Automatic = automatic
entity_of (code.Parameter i) = parameter i
entity_of code.Enumerator = enumerator

-- the name that this one stands for, of the node i
abbrev pub rule_name : List Node → ℕ → DeclaredName → Name
rule_name s i d = record { text = text_at s i; node = i; behind = d.behind; owner = d.owner; scope = scope_of d.scope; entity = entity_of d.entity; is_function = d.is_function }

-- for each node, the name that it declares
pub record AreNames (table : List SynNode) (found : List (Option DeclaredName)) : Type 0 where
  pub long : length found ≡ length table
  pub are : (i : ℕ) → i < length table → name_of (places_in table) i ≡ option_map (rule_name (nodes_in table) i) (get_or found i None)

-- ---- how they are found

-- where its scope begins before the node n
abbrev pub begun_at : ℕ → Option Name → Option Name
begun_at n None = None
begun_at n (Some e) = if nat_lt e.behind n then Some e else None

-- so far, with the names that begin before the node n
pub record AreBegun (table : List SynNode) (n : ℕ) (found : List (Option DeclaredName)) : Type 0 where
  pub derived : IsDerived table
  pub nodes : length (nodes_in table) ≡ length table
  pub long : length found ≡ length table
  pub are : (i : ℕ) → i < length table → begun_at n (name_of (places_in table) i) ≡ option_map (rule_name (nodes_in table) i) (get_or found i None)

-- what specifiers say
pub record IsWords (s : List Node) (names : List Name) (node : Node) (words : SpecWords) : Type 0 where
  pub says_typedef : words.is_typedef ≡ says s (codes "typedef") node
  pub says_static : words.is_static ≡ says s (codes "static") node
  pub says_extern : words.is_extern ≡ says s (codes "extern") node
  pub says_function_type : words.is_function ≡ says_function s names node

abbrev pub no_words : SpecWords
no_words = record { is_typedef = false; is_static = false; is_extern = false; is_function = false }

-- of the nodes before this one, in order
pub record AreWords (table : List SynNode) (n : ℕ) (words : List SpecWords) : Type 0 where
  pub count : length words ≡ n
  pub are : (k : ℕ) → k < n → IsWords (nodes_in table) (places_in table).names (node_at (nodes_in table) k) (get_or words k no_words)

abbrev pub is_function_type : Option DeclaredName → Bool
is_function_type None = false
is_function_type (Some d) = is_typedef (entity_of d.entity) && d.is_function

-- the node declares a typedef name of a function type
abbrev pub names_function_type : Option ℕ → List (Option DeclaredName) → Bool
names_function_type None found = false
names_function_type (Some node) found = is_function_type (get_or found node None)

-- what a declaration declares
abbrev pub declared_entity : SpecWords → Bool → Bool → CodeEntity
declared_entity words is_file_scope is_function =
    if words.is_typedef then code.Typedef else
    if is_function then code.Function else
    if is_file_scope || words.is_static || words.is_extern then code.Static else code.Automatic

-- a word that is a typedef name of a function type
abbrev pub is_function_word : List Node → List Name → ℕ → Bool
is_function_word s names n = is_word (kind_at s n) && rules.names_function_type (denoted names n (text_at s n))
