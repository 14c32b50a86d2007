-- The groups of a `switch`.
use Rattle.std.specs.Prelude.{◌≡◌, List}
use Rattle.c_types.specs.declared.tree.Group.{Group}
use Rattle.c_typing.specs.Statements.{Item, groups_of}

-- they are the groups of these labels and statements
abbrev pub AreGroups : List Group → List Item → Type 0
AreGroups groups items = groups ≡ (groups_of items).groups
