use Rattle.std.proofs.Common.{◌≡◌, ℕ, ◌<◌, get_or, false}
use Rattle.rv_code.specs.declared.assembly.AsmFunction.{AsmFunction}
use Rattle.rv_stepper.proofs.Loads.{is_main}
use Rattle.rv_stepper.proofs.load.main_number.Given as goal

abbrev pub invariant-loop-number : goal.invariant-loop-number
invariant-loop-number l = (k : ℕ) (d : AsmFunction) → k < l.number → is_main (get_or l.functions k d) ≡ false
