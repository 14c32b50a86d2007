use Rattle.std.proofs.Common.{◌≡◌, ◌++◌, Some, map, reverse, vec_len}
use Rattle.c_interpreter.proofs.turns.move_arguments.Given as goal

abbrev pub invariant-arguments : goal.invariant-arguments
invariant-arguments l = l.words.items ++ map Some (reverse l.arguments.items) ≡ l.fn.words.items ++ map Some (reverse l.fn.arguments.items)

abbrev pub decreases-arguments : goal.decreases-arguments
decreases-arguments l = vec_len l.arguments
