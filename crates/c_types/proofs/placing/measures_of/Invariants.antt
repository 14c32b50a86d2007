use Rattle.std.proofs.Common.{◌≡◌, ◌++◌, drop}
use Rattle.c_types.specs.Placing.{measures_of}
use Rattle.c_types.proofs.placing.measures_of.Given as goal

abbrev pub invariant-loop-object : goal.invariant-loop-object
invariant-loop-object l = l.measures.items ++ measures_of (drop l.object-index l.objects) ≡ measures_of l.objects
