-- The scopes that a log of steps makes, and what a map says of each name.
use Rattle.std.specs.Prelude.{◌≡◌, ℕ, ◌+◌, ◌<◌, ◌&&◌, ◌||◌, nat_eq, Bool, false, List, [], ◌∷◌, length, if◌then◌else◌, unwrap_or}
use Rattle.std.specs.Str.{bytes_eq}
use Rattle.std.specs.Borrow.{Bor}
use Rattle.indexmap.specs.IndexMap.{IndexMap, get_by}
use Rattle.c_grammar.specs.Scopes.{Entry, Names, add, declares, declares_typedef, opened}
use Rattle.c_scopes.specs.declared.scopes.Declared.{Declared}
use Rattle.c_scopes.specs.declared.scopes.Latest.{Latest}
use Rattle.c_scopes.specs.declared.scopes.Step.{Step}
use Rattle.c_scopes.specs.declared.scopes.Step.TheVariants.{Opened, Added}

abbrev pub entry_of : Declared → Entry
entry_of declared = record { name = declared.name.now; is_typedef = declared.is_typedef }

-- what the innermost scope declares; nothing where no scope is there
abbrev pub innermost : Names → List Entry
innermost [] = []
innermost (scope ∷ outer) = scope

-- the scopes behind the steps, the newest step first
abbrev pub names_of : List Step → Names
names_of [] = []
names_of (Opened ∷ older) = opened (names_of older)
names_of (Added a ∷ older) = add (names_of older) (entry_of a.declared ∷ [])

-- no scope declares the name
abbrev pub undeclared : Latest
undeclared = record { depth = 0; is_typedef = false }

-- behind one more declaration, in a scope of this depth that is the innermost
abbrev pub declared_again : Latest → ℕ → Bool → Latest
declared_again before depth is_typedef =
    record { depth = depth; is_typedef = is_typedef || (nat_eq before.depth depth && before.is_typedef) }

-- the innermost scope that declares the name
abbrev pub latest_in : Names → List ℕ → Latest
latest_in [] name = undeclared
latest_in (scope ∷ outer) name =
    if declares name scope then record { depth = length outer + 1; is_typedef = declares_typedef name scope } else latest_in outer name

-- what a map says of a name
abbrev pub recorded : {S : Type 0} → IndexMap (Bor (List ℕ)) Latest S → List ℕ → Latest
recorded map name = unwrap_or (get_by (λ key. bytes_eq name key.now) map) undeclared

-- each declaration is in a scope, and has what was true of its name before
abbrev pub IsUndoable : List Step → Type 0
IsUndoable [] = Unit {0}
IsUndoable (Opened ∷ older) = IsUndoable older
IsUndoable (Added a ∷ older) = (a.before ≡ latest_in (names_of older) a.declared.name.now) × (0 < length (names_of older)) × IsUndoable older

-- a log, the newest step first, with the map and the depth that are behind it
pub record IsKept {S : Type 0} (log : List Step) (latest : IndexMap (Bor (List ℕ)) Latest S) (depth : ℕ) : Type 0 where
  pub undoable : IsUndoable log
  pub says : (name : List ℕ) → recorded latest name ≡ latest_in (names_of log) name
  pub counts : depth ≡ length (names_of log)
