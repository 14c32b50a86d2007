use Rattle.std.proofs.Common.{◌-◌, length}
use Rattle.c_lexer.specs.Tokens.{Reaches}
use Rattle.c_lexer.proofs.lexer.lex.Given as goal

-- the pieces so far lead here, with these tokens
abbrev pub invariant-loop-at : goal.invariant-loop-at
invariant-loop-at l = Reaches l.bytes 0 l.at l.tokens

abbrev pub decreases-loop-at : goal.decreases-loop-at
decreases-loop-at l = length l.bytes - l.at
