use Rattle.c_interpreter.specs.Machine.{seen}
use Rattle.c_interpreter.specs.Leading.{Reaches}
use Rattle.c_interpreter.specs.Weights.{weight}
use Rattle.c_interpreter.proofs.machine.Machine.run_on.Given as goal

abbrev pub invariant-steps : goal.invariant-steps
invariant-steps l = Reaches l.place (seen l.fn.self) l.fn.start (seen l.self) l.task

abbrev pub decreases-steps : goal.decreases-steps
decreases-steps l = weight (seen l.self) l.task
