-- The state of the stepper as the state of the machine. No public contract names this file.
use Rattle.std.specs.Prelude.{◌≡◌, ℕ, zero, suc, ◌<◌, ◌++◌, List, [], ◌∷◌, length, slice_index, Bool, ◌==◌, ◌&&◌}
use Rattle.rv_code.specs.Loading.{LoadedInstr}
use Rattle.rv_code.specs.Machine.{LoadedProgram, Machine, Next, Goes, Ends, Sticks}
use Rattle.rv_code.specs.Registers.{x_a0, x_a1, x_a2, x_a7}
use Rattle.rv_stepper.specs.declared.program.Instr.{Instr}
use Rattle.rv_stepper.specs.declared.state.State.{State}
use Rattle.rv_stepper.specs.declared.state.Stepped.{Stepped}
use Rattle.rv_stepper.specs.declared.state.Stepped.TheVariants.{Went, Wrote, Ended, Stuck}
use Rattle.rv_stepper.specs.Space.{Space, memory_of, may_access}

-- the state, with the output so far
abbrev pub machine_of : State → List ℕ → Machine
machine_of s out = record { pc = s.pc; registers = slice_index s.registers; memory = memory_of s.memory; taken = s.taken; out = out }

-- what a step came to: `Wrote` says that the output has one more byte
abbrev pub next_of : Stepped → State → List ℕ → Next
next_of Went s out = Goes (machine_of s out)
next_of (Wrote byte) s out = Goes (machine_of s (out ++ byte ∷ []))
next_of (Ended status) s out = Ends status
next_of Stuck s out = Sticks

abbrev pub instr_of : Instr → LoadedInstr
instr_of i = record { name = i.name; rd = i.rd; rs1 = i.rs1; rs2 = i.rs2; value = i.value }

-- the program reaches this memory
pub record Reaches (p : LoadedProgram) (space : Space) : Type 0 where
  pub layout : p.layout ≡ space.layout
  pub size : length p.bytes ≡ space.size

-- only its bytes may have changed
pub record Keeps (old new : Space) : Type 0 where
  pub layout : new.layout ≡ old.layout
  pub size : new.size ≡ old.size

-- the word of a register; x0 is 0
abbrev pub word_of_register : List ℕ → ℕ → ℕ
word_of_register registers zero = 0
word_of_register registers (suc r) = slice_index registers (suc r)

-- the environment is called with this number in a7, on one byte of this file
abbrev pub is_called : State → ℕ → ℕ → Bool
is_called s number file =
    (slice_index s.registers x_a7 == number) && (slice_index s.registers x_a0 == file) && (slice_index s.registers x_a2 == 1)
    && may_access s.memory.layout s.memory.size (slice_index s.registers x_a1) 1
