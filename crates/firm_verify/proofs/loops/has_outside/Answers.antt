use Rattle.std.proofs.Common.{arith}
use Rattle.firm_verify.proofs.loops.has_outside.Goals as goal

pub returns : goal.returns
returns c = λ outside. c.loop-block.invariant outside.0 (omega (arith, outside.1.0, c.loop-block-test.false)) outside.1.1
