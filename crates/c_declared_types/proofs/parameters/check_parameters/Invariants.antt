use Rattle.c_declared_types.proofs.ParameterLaws.{SoFar}
use Rattle.c_declared_types.proofs.parameters.check_parameters.Given as goal

abbrev pub invariant-loop-id : goal.invariant-loop-id
invariant-loop-id l = SoFar l.table l.takes l.id-index
