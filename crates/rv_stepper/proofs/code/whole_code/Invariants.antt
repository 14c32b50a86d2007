use Rattle.std.proofs.Common.{◌≡◌, ◌++◌, take, length, ℕ, ◌<◌}
use Rattle.std.specs.Prelude.{slice_index}
use Rattle.rv_code.specs.Routines.{start_code}
use Rattle.rv_code.specs.Places.{code_of, function_index}
use Rattle.rv_stepper.proofs.code.whole_code.Given as goal

abbrev pub invariant-loop-function : goal.invariant-loop-function
invariant-loop-function l = record {
  instrs : l.instrs.items ≡ start_code l.main l.buffer ++ code_of (take l.function-index l.functions);
  count : length l.starts.items ≡ l.function-index;
  each : (k : ℕ) → k < l.function-index → slice_index l.starts.items k ≡ function_index l.functions k;
}
