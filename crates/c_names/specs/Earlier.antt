-- What was declared before under the same name in the same scope.
use Rattle.std.specs.Prelude.{◌≡◌, ℕ, ◌<◌, Bool, false, ◌&&◌, ◌||◌, ◌==◌, List, Option, Some, None, filter, get_or, if◌then◌else◌, length, nat_lt, slice_set, unwrap_or}
use Rattle.std.specs.List.{last_or, list_any}
use Rattle.std.specs.Map.{lookup}
use Rattle.std.specs.Str.{bytes_eq}
use Rattle.indexmap.specs.IndexMap.{IndexMap}
use Rattle.c_syntax.specs.declared.syntax.SynNode.{SynNode}
use Rattle.c_typing.specs.Places.{has_kid, node_at}
use Rattle.c_typing.specs.Names.{Name, earlier, is_initialized, name_of}
use Rattle.c_nodes.specs.Parents.{nodes_in}
use Rattle.c_names.specs.declared.declarations.Earlier.{Earlier}
use Rattle.c_names.specs.declared.declarations.Key.{Key}
use Rattle.c_names.specs.Texts.{first_of}
use Rattle.c_names.specs.Denoted.{Begins, IsBegun, node_of, places_in}

abbrev pub none_before : Earlier
none_before = record { last = None; is_initialized = false }

-- the last of some names, and whether one has an initializer or a body
pub record Sums (table : List SynNode) (names : List Name) (found : Earlier) : Type 0 where
  pub last : found.last ≡ node_of (last_or None names)
  pub initialized : found.is_initialized ≡ list_any (is_initialized (places_in table)) names

-- of a name the ones that it declares again; of a node that declares none, nothing
abbrev pub IsEarlier : List SynNode → Option Name → Earlier → Type 0
IsEarlier table None found = found ≡ none_before
IsEarlier table (Some e) found = Sums table (earlier (places_in table) e) found

pub record AreEarlier (table : List SynNode) (found : List Earlier) : Type 0 where
  pub long : length found ≡ length table
  pub are : (i : ℕ) → i < length table → IsEarlier table (name_of (places_in table) i) (get_or found i none_before)

-- ---- how they are found

-- the names of this text in the scope of this owner that begin before the node n
abbrev pub members : List Name → ℕ → List ℕ → ℕ → List Name
members names n text owner = filter (λ (a : Name). (bytes_eq a.text text && a.scope.owner == owner) && nat_lt a.behind n) names

abbrev pub is_key : ℕ → ℕ → Key → Bool
is_key text owner key = (text == key.text) && (owner == key.owner)

abbrev pub recorded : {S : Type 0} → IndexMap Key Earlier S → ℕ → ℕ → Earlier
recorded map text owner = unwrap_or (lookup (is_key text owner) map.entries) none_before

abbrev pub later_of : Option ℕ → ℕ → ℕ
later_of None node = node
later_of (Some last) node = if nat_lt node last then last else node

abbrev pub with_name : Earlier → ℕ → Bool → Earlier
with_name e node is_initialized = record { last = Some (later_of e.last node); is_initialized = e.is_initialized || is_initialized }

-- the name that begins behind the node n is noted
pub data IsStep {S : Type 0} (table : List SynNode) (n : ℕ) (old new : IndexMap Key Earlier S) (found after : List Earlier) : Type 0 where
  nothing : IsBegun table n None → new ≡ old → after ≡ found → IsStep table n old new found after
  noted : (node text : ℕ) (b : Begins table n node) → first_of (nodes_in table) b.name.text ≡ Some text → after ≡ slice_set found node (recorded old text b.name.scope.owner)
      → recorded new text b.name.scope.owner ≡ with_name (recorded old text b.name.scope.owner) node (has_kid (node_at (nodes_in table) b.name.owner) 1)
      → ((t o : ℕ) → (t ≡ text → o ≡ b.name.scope.owner → ⊥) → recorded new t o ≡ recorded old t o) → IsStep table n old new found after
