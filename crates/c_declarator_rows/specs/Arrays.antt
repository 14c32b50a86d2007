-- Arrays as parts of declarators.
use Rattle.std.specs.Prelude.{◌≡◌, ℕ, Bool, true, false, ◌&&◌, not, List, [], ◌∷◌, ◌++◌, Some, codes}
use Rattle.c_syntax.specs.declared.syntax.SynNode.{SynNode}
use Rattle.c_typing.specs.Places.{Node, has_kid, is_next_to_name, says, specs_of}
use Rattle.c_typing.specs.Judgements as rules
use Rattle.c_typing.specs.Judgements.{Fault, Judgement, PlacedStep, means, of_array, of_unsized, steps, steps_at, verdict}
use Rattle.c_typing.specs.Rules.{absent_length}
use Rattle.c_typing.specs.Declarators.{length_faults, word_in}
use Rattle.c_nodes.specs.Parents.{nodes_in}
use Rattle.c_meanings.specs.Meanings.{judged_to, kid_in, node_in}
use Rattle.c_declarator_rows.specs.declared.arrays.ArrayPlace.{ArrayPlace}
use Rattle.c_declarator_rows.specs.declared.arrays.ArrayPlace.TheVariants as place

-- outermost in the type of a parameter; with an initializer that may give the length; or neither
abbrev pub IsPlace : ArrayPlace → Bool → Bool → Type 0
IsPlace place.OfParameter parameter given = parameter ≡ true
IsPlace place.Initialized parameter given = (parameter ≡ false) × (given ≡ true)
IsPlace place.Plain parameter given = (parameter ≡ false) × (given ≡ false)

abbrev pub place_by : Bool → ArrayPlace
place_by true = place.Initialized
place_by false = place.Plain

-- a declarator has an initializer, and declares no typedef name
abbrev pub may_give : List Node → Node → Bool
may_give s owner = has_kid owner 1 && not (says s (codes "typedef") (specs_of s owner))

-- where the part next to a name is the node n, no step comes before it
abbrev pub BeginsAtName : List SynNode → ℕ → Type 0
BeginsAtName table n = is_next_to_name (nodes_in table) (node_in table n) ≡ true → (ss : List PlacedStep) → steps_at (judged_to table n) (kid_in table n 0) ≡ Some ss → ss ≡ []

abbrev pub with_one : ℕ → List PlacedStep → rules.Step → Judgement
with_one node ss step = means (steps (ss ++ record { node = node; step = step } ∷ []))

-- a part of a declarator that is an array: without a length between its brackets, and with one
abbrev pub uncounted : ℕ → List PlacedStep → ArrayPlace → Judgement
uncounted node ss place.OfParameter = with_one node ss rules.of_parameter
uncounted node ss place.Initialized = with_one node ss of_unsized
uncounted node ss place.Plain = verdict (absent_length node) (steps ss)

abbrev pub counted_by : ℕ → List PlacedStep → rules.Typing → List Fault → Judgement
counted_by node ss x [] = with_one node ss (of_array (word_in x.constant))
counted_by node ss x (f ∷ fs) = verdict (f ∷ fs) (steps ss)

abbrev pub counted : ℕ → List PlacedStep → rules.Typing → ℕ → ArrayPlace → Judgement
counted node ss x length_node place.OfParameter = with_one node ss rules.of_parameter
counted node ss x length_node other = counted_by node ss x (length_faults x length_node node)
