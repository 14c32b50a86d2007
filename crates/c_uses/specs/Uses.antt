-- What is asked of names that are used.
use Rattle.std.specs.Prelude.{◌≡◌, ℕ, ◌<◌, Bool, true, false, List, [], ◌∷◌, ◌&&◌, Option, Some, None, length, codes, if◌then◌else◌}
use Rattle.std.specs.Str.{bytes_eq}
use Rattle.c_syntax.specs.declared.syntax.SynNode.{SynNode}
use Rattle.c_typing.specs.Places.{Node, is_function, kind_at, text_at}
use Rattle.c_typing.specs.Names.{Name, Places, denoted, function_text, name_of}
use Rattle.c_typing.specs.Judgements.{Fault, rule}
use Rattle.c_typing.specs.Typing.{is_there}
use Rattle.c_nodes.specs.Parents.{nodes_in}
use Rattle.c_names.specs.Denoted.{is_use, places_in}
use Rattle.c_names.specs.Names.{rule_name}
use Rattle.c_uses.specs.declared.names.UsedName.{UsedName}

-- the name that this one stands for
abbrev pub name_used : List SynNode → UsedName → Name
name_used table used = rule_name (nodes_in table) used.node used.name

-- the node n denotes this name, which has its text
pub record Denotes (table : List SynNode) (n : ℕ) (used : UsedName) : Type 0 where
  pub is : denoted (places_in table).names n (text_at (nodes_in table) n) ≡ Some (name_used table used)
  pub text : text_at (nodes_in table) used.node ≡ text_at (nodes_in table) n
  pub declared : name_of (places_in table) used.node ≡ Some (name_used table used)
  pub within : used.node < length table

abbrev pub IsUse : List SynNode → ℕ → Option UsedName → Type 0
IsUse table n None = denoted (places_in table).names n (text_at (nodes_in table) n) ≡ None
IsUse table n (Some used) = Denotes table n used

-- what a use denotes; to another node nothing is given
abbrev pub IsUsedName : List SynNode → ℕ → Option UsedName → Type 0
IsUsedName table n found =
    (is_use (kind_at (nodes_in table) n) ≡ true → IsUse table n found)
    × (is_use (kind_at (nodes_in table) n) ≡ false → found ≡ None)

-- the faults of a node that breaks this rule, or none
abbrev pub told : Option ℕ → ℕ → List Fault
told None n = []
told (Some r) n = rule r n ∷ []

abbrev pub broken : ℕ → Bool → Option ℕ
broken number is_broken = if is_broken then Some number else None

-- what is denoted is there when the program runs; where nothing is, another rule is broken
abbrev pub is_defined : Places → Option Name → Bool
is_defined p None = true
is_defined p (Some e) = is_there p e e.entity

-- ---- how `main` is found

abbrev pub is_main : Places → Node → Bool
is_main p node = is_function node.label.kind && bytes_eq (function_text p node) (codes "main")
