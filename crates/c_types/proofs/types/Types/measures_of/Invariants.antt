use Rattle.std.proofs.Common.{List, ◌++◌, drop}
use Rattle.c_types.specs.declared.kind.Measure.{Measure}
use Rattle.c_types.specs.Sizes.{MeasuresAll}
use Rattle.c_types.specs.Tables.{members_from}
use Rattle.c_types.proofs.types.Types.measures_of.Given as goal

-- what is measured so far, with what is left
abbrev pub invariant-loop-member : goal.invariant-loop-member
invariant-loop-member l = (ms : List Measure) → MeasuresAll l.self (members_from (drop l.member-index l.members)) ms → MeasuresAll l.self (members_from l.members) (l.measures.items ++ ms)
