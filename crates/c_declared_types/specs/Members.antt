-- Members of structs as the code has them, and as the rules do.
use Rattle.std.specs.Prelude.{ℕ, List, [], ◌∷◌, ◌++◌, map}
use Rattle.std.specs.Borrow.{Bor}
use Rattle.indexmap.specs.IndexSet.{IndexSet}
use Rattle.c_types.specs.declared.kind.TypeId.{TypeId}
use Rattle.c_typing.specs.Types.{Field}

-- each name beside the node of its declaration
abbrev pub named_in : List (List ℕ × TypeId) → List ℕ → List (List ℕ × ℕ)
named_in (m ∷ ms) (n ∷ ns) = (m.0, n) ∷ named_in ms ns
named_in ms ns = []

-- the same, declaration by declaration
abbrev pub named_by : List (List Field) → List ℕ → List (List ℕ × ℕ)
named_by (fields ∷ rest) (n ∷ ns) = map (λ (f : Field). (f.name, n)) fields ++ named_by rest ns
named_by groups ns = []

-- the names in a set
abbrev pub texts_of : {S : Type 0} → IndexSet (Bor (List ℕ)) S → List (List ℕ)
texts_of set = map (λ key. key.now) set.keys
