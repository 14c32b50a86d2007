-- The names and the values of enumerators.
use Rattle.std.specs.Prelude.{◌≡◌, ℕ, List, ◌++◌, Option, Some, None, Result}
use Rattle.c_syntax.specs.declared.syntax.SynNode.{SynNode}
use Rattle.c_typing.specs.Names.{name_of}
use Rattle.c_typing.specs.Judgements.{Fault, enumerates, verdict, waits}
use Rattle.c_typing.specs.Declarators.{enumerator_faults}
use Rattle.c_names.specs.Denoted.{places_in}
use Rattle.c_answers.specs.declared.refusal.Refusal.{Refusal}
use Rattle.c_answers.specs.Answers.{Settles}
use Rattle.c_meanings.specs.Meanings.{judged_at, judged_to, node_in}

-- what is asked of the name of the node n
abbrev pub enumerator_names : List SynNode → ℕ → List Fault
enumerator_names table n = enumerator_faults (places_in table) (judged_to table n) (node_in table n) (name_of (places_in table) (node_in table n).id)

-- the value of the node n, or a rule that it breaks; or a part that it needs has no meaning
abbrev pub IsValue : List SynNode → ℕ → Option (Result ℕ Refusal) → Type 0
IsValue table n None = judged_at table n ≡ waits
IsValue table n (Some found) =
    (fs : List Fault) × (w : ℕ) × (judged_at table n ≡ verdict (enumerator_names table n ++ fs) (enumerates w)) × Settles (λ v. v ≡ w) found fs
