use Rattle.std.proofs.Common.{◌≡◌, drop}
use Rattle.c_meaning.specs.Runs.{main_of}
use Rattle.c_interpreter.proofs.unit.main_of.Given as goal

-- main is not among the functions before this one
abbrev pub invariant-loop-function : goal.invariant-loop-function
invariant-loop-function l = main_of l.functions ≡ main_of (drop l.function-index l.functions)
