use Rattle.std.proofs.Common.{ℕ, ◌≡◌, List, ◌++◌, length}
use Rattle.c_lexer.specs.Literals.{StandsFor}
use Rattle.c_lexer.proofs.literal.decode.Given as goal

-- what the rest stands for, behind the bytes so far, is what the whole text stands for
abbrev pub invariant-loop-rest : goal.invariant-loop-rest
invariant-loop-rest l = record {
  stands : (more : List ℕ) → StandsFor l.rest more → StandsFor l.inside (l.bytes ++ more);
  only : (all : List ℕ) → StandsFor l.inside all → (more : List ℕ) × (all ≡ l.bytes ++ more) × StandsFor l.rest more;
}

abbrev pub decreases-loop-rest : goal.decreases-loop-rest
decreases-loop-rest l = length l.rest
