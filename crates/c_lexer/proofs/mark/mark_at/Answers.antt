use Rattle.c_lexer.proofs.TokensAt.{no_long_mark, no_mark_past_two, no_mark_past_one, no_mark_here}
use Rattle.c_lexer.proofs.mark.mark_at.Goals as goal

pub returns-in-Some-clause-longest : goal.returns-in-Some-clause-longest
returns-in-Some-clause-longest c = no_long_mark c.args.text.now

pub returns-in-Some-front_mark-clause-longest : goal.returns-in-Some-front_mark-clause-longest
returns-in-Some-front_mark-clause-longest c = no_mark_past_two c.args.text.now c.in_default.ensures.none

pub returns-clause-longest : goal.returns-clause-longest
returns-clause-longest c = no_mark_past_one c.args.text.now c.in_default.ensures.none c.in_default-front_mark.ensures.none

pub returns-in_err-mark-clause-none : goal.returns-in_err-mark-clause-none
returns-in_err-mark-clause-none c = rw c.from_residual.ensures (no_mark_here c.args.text.now c.in_default.ensures.none c.in_default-front_mark.ensures.none c.in_err-mark.ensures.none)
