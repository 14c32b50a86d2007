use Rattle.std.proofs.Common.{take}
use Rattle.ssa_tests.specs.Seen.{Sees}
use Rattle.ssa_tests.proofs.only.only_of.Given as goal

abbrev pub invariant-loop-operand : goal.invariant-loop-operand
invariant-loop-operand l = Sees l.seen l.phi (take l.operand-index l.operands)
