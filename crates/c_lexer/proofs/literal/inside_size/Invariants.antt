use Rattle.c_lexer.proofs.Insides.{Scanned}
use Rattle.c_lexer.proofs.literal.inside_size.Given as goal

abbrev pub invariant-loop-index : goal.invariant-loop-index
invariant-loop-index l = Scanned l.quote l.text l.is_escaped l.index
