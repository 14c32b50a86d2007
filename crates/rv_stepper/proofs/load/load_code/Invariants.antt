use Rattle.std.proofs.Common.{◌≡◌, take}
use Rattle.std.specs.Prelude.{map}
use Rattle.rv_code.specs.Loading.{loaded_from}
use Rattle.rv_stepper.specs.States.{instr_of}
use Rattle.rv_stepper.proofs.load.load_code.Given as goal

abbrev pub invariant-loop-index : goal.invariant-loop-index
invariant-loop-index l = map instr_of l.loaded.items ≡ loaded_from l.functions l.layout 0 (take l.index l.code.instrs.items)
