use Rattle.std.specs.Prelude.{vec_len}
use Rattle.c_calls.proofs.PassLaws.{SoFar}
use Rattle.c_calls.proofs.arguments.pass_all.Given as goal

abbrev pub invariant-loop-argument : goal.invariant-loop-argument
invariant-loop-argument l = SoFar l.initial.table l.table l.fn.id l.initial.arguments.items l.arguments.items l.nodes l.codes.items

abbrev pub decreases-loop-argument : goal.decreases-loop-argument
decreases-loop-argument l = vec_len l.arguments
