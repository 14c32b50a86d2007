-- Those before this one have a meaning.
use Rattle.std.proofs.Common.{◌≡◌, ◌<◌, ◌≤◌, ℕ, true}
use Rattle.std.specs.Prelude.{is_some}
use Rattle.c_typing.specs.Judgements.{typing_at}
use Rattle.c_meanings.specs.Meanings.{judged_to, kid_in}
use Rattle.c_expression_rows.proofs.arguments.are_arguments.Given as goal

abbrev pub invariant-loop-index : goal.invariant-loop-index
invariant-loop-index l = (i : ℕ) → 1 ≤ i → i < l.index → is_some (typing_at (judged_to l.nodes l.node) (kid_in l.nodes l.node i)) ≡ true
