use Rattle.std.proofs.Common.{◌≡◌, ◌++◌, None, replicate}
use Rattle.c_interpreter.proofs.turns.push_unset.Given as goal

abbrev pub invariant-loop-unset : goal.invariant-loop-unset
invariant-loop-unset l = l.words.items ≡ l.fn.words.items ++ replicate l.unset None
