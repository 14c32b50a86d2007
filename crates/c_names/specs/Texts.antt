-- The texts of names, each by the first node that has it.
use Rattle.std.specs.Prelude.{◌≡◌, ℕ, ◌<◌, Bool, true, false, ◌&&◌, List, Option, Some, find, get_or, length, option_map, take, ◌+◌}
use Rattle.std.specs.Str.{bytes_eq}
use Rattle.std.specs.Borrow.{Bor}
use Rattle.indexmap.specs.IndexMap.{IndexMap, get_by}
use Rattle.c_syntax.specs.declared.kind.SynKind.{SynKind}
use Rattle.c_syntax.specs.declared.kind.SynKind.TheVariants as kind
use Rattle.c_syntax.specs.declared.syntax.SynNode.{SynNode}
use Rattle.c_typing.specs.Places.{Node, kind_at, text_at}
use Rattle.c_nodes.specs.Parents.{nodes_in}

-- the text of such a node is a name
abbrev pub has_name : SynKind → Bool
has_name kind.Ident = true
has_name kind.Enumer = true
has_name kind.Var = true
has_name kind.Word = true
has_name kind.StructSpec = true
has_name kind.EnumSpec = true
has_name k = false

abbrev pub is_named : List ℕ → Node → Bool
is_named text node = has_name node.label.kind && bytes_eq node.label.text text

-- the first node with this name
abbrev pub first_of : List Node → List ℕ → Option ℕ
first_of s text = option_map (λ (node : Node). node.id) (find (is_named text) s)

-- for each node with a name, the first one with the same name
pub record AreTexts (table : List SynNode) (found : List ℕ) : Type 0 where
  pub long : length found ≡ length table
  pub firsts : (i : ℕ) → i < length table → has_name (kind_at (nodes_in table) i) ≡ true → first_of (nodes_in table) (text_at (nodes_in table) i) ≡ Some (get_or found i 0)

-- ---- how they are found

abbrev pub IsFirst : List Node → ℕ → ℕ → Type 0
IsFirst s n first = has_name (kind_at s n) ≡ true → first_of (take (n + 1) s) (text_at s n) ≡ Some first

-- what a map says of each text
abbrev pub Says : {S : Type 0} → IndexMap (Bor (List ℕ)) ℕ S → List Node → Type 0
Says map s = (text : List ℕ) → get_by (λ key. bytes_eq text key.now) map ≡ first_of s text
