-- Where functions begin. No public contract names this file.
use Rattle.std.specs.Prelude.{◌≡◌, ℕ, ◌<◌, List, length, slice_index}
use Rattle.rv_code.specs.declared.assembly.AsmFunction.{AsmFunction}
use Rattle.rv_code.specs.Places.{function_index}

-- of each function the index of its first instruction
pub record AreStarts (functions : List AsmFunction) (starts : List ℕ) : Type 0 where
  pub count : length starts ≡ length functions
  pub each : (number : ℕ) → number < length functions → slice_index starts number ≡ function_index functions number
