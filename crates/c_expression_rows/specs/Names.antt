-- What a name that is used denotes, and the type of it.
use Rattle.std.specs.Prelude.{◌≡◌, ◌⊎◌, ℕ, Bool, true, false, List, Option, Some, None, is_some, if◌then◌else◌}
use Rattle.c_syntax.specs.declared.syntax.SynNode.{SynNode}
use Rattle.c_typing.specs.Types.{CType}
use Rattle.c_typing.specs.Names.{Entity, Name, automatic, denoted, parameter, typedef_name}
use Rattle.c_typing.specs.Judgements.{type_at}
use Rattle.c_names.specs.Denoted.{places_in}
use Rattle.c_meanings.specs.Meanings.{judged_to, node_in}

abbrev pub denoted_at : List SynNode → ℕ → Option Name
denoted_at table n = denoted (places_in table).names n (node_in table n).label.text

abbrev pub Denotes : List SynNode → ℕ → Name → Type 0
Denotes table n e = denoted_at table n ≡ Some e

-- nothing, or a type
abbrev pub IsUnknown : List SynNode → ℕ → Type 0
IsUnknown table n = (denoted_at table n ≡ None) ⊎ ((e : Name) × Denotes table n e × (e.entity ≡ typedef_name))

-- the type of a name, at the node n: with its initializer (6.7.8, 22), or of its declarator
abbrev pub declared_type : List SynNode → ℕ → ℕ → ℕ → Option CType
declared_type table n owner behind = if is_some (type_at (judged_to table n) owner) then type_at (judged_to table n) owner else type_at (judged_to table n) behind

-- an object of a function
abbrev pub is_local : Entity → Bool
is_local automatic = true
is_local (parameter i) = true
is_local e = false
