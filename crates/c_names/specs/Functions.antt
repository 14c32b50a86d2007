-- The numbers of functions.
use Rattle.std.specs.Prelude.{◌≡◌, ℕ, ◌<◌, true, false, List, Option, Some, None, filter, get_or, length, position, take}
use Rattle.std.specs.Str.{bytes_eq}
use Rattle.c_syntax.specs.declared.syntax.SynNode.{SynNode}
use Rattle.c_typing.specs.Places.{Node, is_function, kid, kind_at, node_at, text_at}
use Rattle.c_typing.specs.Names.{function_number}
use Rattle.c_nodes.specs.Parents.{nodes_in}
use Rattle.c_names.specs.Texts.{first_of, has_name}
use Rattle.c_names.specs.Denoted.{places_in}

-- of a node with a name the number of the function of this name; of another node none
abbrev pub IsNumber : List SynNode → ℕ → Option ℕ → Type 0
IsNumber table i found =
    (has_name (kind_at (nodes_in table) i) ≡ true → found ≡ function_number (places_in table) (text_at (nodes_in table) i))
    × (has_name (kind_at (nodes_in table) i) ≡ false → found ≡ None)

pub record AreNumbers (table : List SynNode) (found : List (Option ℕ)) : Type 0 where
  pub long : length found ≡ length table
  pub are : (i : ℕ) → i < length table → IsNumber table i (get_or found i None)

-- ---- how they are found

-- by the first node that has the text
pub record AreFirsts (table : List SynNode) (firsts : List (Option ℕ)) : Type 0 where
  pub long : length firsts ≡ length table
  pub are : (text : List ℕ) (t : ℕ) → first_of (nodes_in table) text ≡ Some t → get_or firsts t None ≡ function_number (places_in table) text

abbrev pub first_number : Option ℕ → ℕ → Option ℕ
first_number None number = Some number
first_number (Some first) number = Some first

-- the text of a function's name
abbrev pub name_text : List Node → ℕ → List ℕ
name_text s n = text_at s (node_at s (kid (node_at s n) 1)).first

-- among the functions of the nodes before this one
abbrev pub functions_before : List Node → ℕ → List Node
functions_before s n = filter (λ node. is_function node.label.kind) (take n s)

abbrev pub number_before : List Node → ℕ → List ℕ → Option ℕ
number_before s n text = position (λ f. bytes_eq (text_at s (node_at s (kid f 1)).first) text) (functions_before s n)
