-- All kids so far are statements.
use Rattle.std.proofs.Common.{◌≡◌, ◌<◌, ℕ, true}
use Rattle.std.specs.Prelude.{is_some}
use Rattle.c_typing.specs.Judgements.{code_at}
use Rattle.c_meanings.specs.Meanings.{judged_to, kid_in}
use Rattle.c_statement_rows.proofs.blocks.have_code.Given as goal

abbrev pub invariant-loop-index : goal.invariant-loop-index
invariant-loop-index l = (i : ℕ) → i < l.index → is_some (code_at (judged_to l.fn.nodes l.fn.node) (kid_in l.fn.nodes l.fn.node i)) ≡ true
