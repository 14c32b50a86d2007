-- Noted, with the names of the nodes before this one.
use Rattle.c_contexts.specs.Contexts.{AreFunctionSpecsBefore}
use Rattle.c_contexts.proofs.functions.put_specs.Given as goal

abbrev pub invariant-loop-number : goal.invariant-loop-number
invariant-loop-number l = AreFunctionSpecsBefore l.scoped l.number l.found
