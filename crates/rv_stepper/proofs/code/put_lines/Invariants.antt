use Rattle.std.proofs.Common.{◌≡◌, ◌++◌, take}
use Rattle.rv_code.specs.Places.{instrs_of}
use Rattle.rv_stepper.proofs.code.put_lines.Given as goal

abbrev pub invariant-loop-line : goal.invariant-loop-line
invariant-loop-line l = l.instrs.items ≡ l.initial.instrs.items ++ instrs_of (take l.line-index l.lines)
