-- The labels of `switch`es as the code has them, and as the rules do.
use Rattle.std.specs.Prelude.{◌≡◌, ◌==◌, ◌&&◌, ℕ, Bool, Option, List}
use Rattle.std.specs.List.{list_any}
use Rattle.c_typing.specs.Places.{Node}
use Rattle.c_typing.specs.Names.{Places}
use Rattle.c_typing.specs.Judgements.{Judgement}
use Rattle.c_typing.specs.Statements.{same_label, has_before}
use Rattle.c_statements.specs.declared.labels.Label.{Label}

-- this label of the `switch` at this node
abbrev pub is_label : ℕ → Option ℕ → Label → Bool
is_label switch word label = (switch == label.switch) && same_label word label.word

abbrev pub has_label : List Label → ℕ → Option ℕ → Bool
has_label labels switch word = list_any (is_label switch word) labels

-- of the `switch` at this node they are the labels that stand before the node n
abbrev pub AreBefore : List Label → ℕ → Places → List Judgement → Node → Type 0
AreBefore labels switch p js n = (word : Option ℕ) → has_before p js n word ≡ has_label labels switch word
