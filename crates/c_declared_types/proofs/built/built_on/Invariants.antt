use Rattle.c_declared_types.proofs.BuildLaws.{SoFar}
use Rattle.std.specs.Prelude.{vec_len}
use Rattle.c_declared_types.proofs.built.built_on.Given as goal

abbrev pub invariant-loop-placed : goal.invariant-loop-placed
invariant-loop-placed l = SoFar l.initial.table l.table l.fn.base l.id l.initial.steps.items l.steps.items

abbrev pub decreases-loop-placed : goal.decreases-loop-placed
decreases-loop-placed l = vec_len l.steps
