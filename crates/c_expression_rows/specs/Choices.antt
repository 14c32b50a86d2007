-- What is found of the condition and the operands of `?:`.
use Rattle.std.specs.Prelude.{◌≡◌, ◌⊎◌, ◌&&◌, ℕ, Bool, true, false, List, Option, Some, None, is_some}
use Rattle.c_syntax.specs.declared.syntax.SynNode.{SynNode}
use Rattle.c_typing.specs.Types.{is_scalar}
use Rattle.c_typing.specs.Judgements.{Typing, typing_at}
use Rattle.c_typing.specs.Conversions.{value_of}
use Rattle.c_meanings.specs.Meanings.{judged_to, kid_in}
use Rattle.c_expression_rows.specs.declared.choices.Found.{Found}
use Rattle.c_expression_rows.specs.declared.choices.Found.TheVariants as found

-- the expression that the kid of this index is
abbrev pub part : List SynNode → ℕ → ℕ → Option Typing
part table n index = typing_at (judged_to table n) (kid_in table n index)

-- the condition has a meaning; whether its value is scalar
abbrev pub Decides : List SynNode → ℕ → Bool → Type 0
Decides table n scalar = (c : Typing) × (part table n 0 ≡ Some c) × (is_scalar (value_of c).type ≡ scalar)

-- whether both operands behind the condition have a meaning
abbrev pub are_choices : List SynNode → ℕ → Bool
are_choices table n = is_some (part table n 1) && is_some (part table n 2)

abbrev pub IsFound : Found → List SynNode → ℕ → Type 0
IsFound found.Waits table n = (part table n 0 ≡ None) ⊎ (Decides table n true × (are_choices table n ≡ false))
IsFound found.NotScalar table n = Decides table n false
IsFound found.Whole table n = Decides table n true × (are_choices table n ≡ true)
