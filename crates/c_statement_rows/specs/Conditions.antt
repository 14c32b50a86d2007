-- What is found of a condition.
use Rattle.std.specs.Prelude.{◌≡◌, ℕ, true, false, List, Option, Some, None, if◌then◌else◌}
use Rattle.c_syntax.specs.declared.syntax.SynNode.{SynNode}
use Rattle.c_types.specs.declared.tree.Stmt.{Stmt}
use Rattle.c_typing.specs.Places.{has_kid}
use Rattle.c_typing.specs.Statements.{empty_statement, statement_at}
use Rattle.c_meanings.specs.Meanings.{judged_to, kid_in, node_in}
use Rattle.c_typing.specs.Types.{is_scalar}
use Rattle.c_typing.specs.Judgements.{Typing}
use Rattle.c_typing.specs.Conversions.{value_of}
use Rattle.c_statement_rows.specs.declared.loops.Condition.{Condition}
use Rattle.c_statement_rows.specs.declared.loops.Condition.TheVariants as condition

-- this is found of the expression that stands as a condition
abbrev pub IsCondition : Condition → Option Typing → Type 0
IsCondition condition.Absent x = x ≡ None
IsCondition condition.NotScalar x = (y : Typing) × (x ≡ Some y) × (is_scalar (value_of y).type ≡ false)
IsCondition condition.Scalar x = (y : Typing) × (x ≡ Some y) × (is_scalar (value_of y).type ≡ true)

-- what stands behind the `else` of an `if`; where there is none, nothing is done
abbrev pub other_at : List SynNode → ℕ → Option Stmt
other_at table n = if has_kid (node_in table n) 2 then statement_at (judged_to table n) (kid_in table n 2) else Some empty_statement
