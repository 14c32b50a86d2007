-- Output that waits, and output that was written. No public contract names this file.
use Rattle.std.specs.Prelude.{◌≡◌, ℕ, ◌++◌, List, [], Option, map}
use Rattle.cp_base.specs.Outside.{gained}
use Rattle.rv_code.specs.declared.machine.RvOutcome.{RvOutcome}
use Rattle.rv_code.specs.Machine.{LoadedProgram, run}
use Rattle.rv_stepper.specs.declared.program.Instr.{Instr}
use Rattle.rv_stepper.specs.declared.state.State.{State}
use Rattle.rv_stepper.specs.States.{machine_of, instr_of, Reaches, Keeps}

-- a sink has gained what stood before the rest
pub record Moves (old new : Option (List ℕ)) (waiting rest : List ℕ) : Type 0 where
  pub done : List ℕ
  pub split : waiting ≡ done ++ rest
  pub told : new ≡ gained old done

-- a program that this code and this state are of
pub record IsOf (p : LoadedProgram) (code : List Instr) (s : State) : Type 0 where
  pub reaches : Reaches p s.memory
  pub instrs : p.code ≡ map instr_of code

-- the outcome of a run, and a sink that has gained its output
pub record HasRun (old new : Option (List ℕ)) (outcome : RvOutcome) (result : RvOutcome × List ℕ) : Type 0 where
  pub same : outcome ≡ result.0
  pub told : new ≡ gained old result.1

-- after some steps of a run: what was written, and what is left to do
pub record SoFar (old now : Option (List ℕ)) (code : List Instr) (input : List ℕ) (start at : State) (waiting : List ℕ) (steps left : ℕ) : Type 0 where
  pub done : List ℕ
  pub told : now ≡ gained old done
  pub kept : Keeps start.memory at.memory
  pub same : (p : LoadedProgram) → IsOf p code start → run p input steps (machine_of start []) ≡ run p input left (machine_of at (done ++ waiting))
