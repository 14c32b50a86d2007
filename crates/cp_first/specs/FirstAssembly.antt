-- What the assembly of a unit of the first form is, and what the machine does with it.
use Rattle.std.specs.Prelude.{◌≡◌, ℕ, ◌≤◌, List}
use Rattle.cp_base.specs.declared.layout.Layout.{Layout}
use Rattle.rv_code.specs.declared.assembly.AsmUnit.{AsmUnit}
use Rattle.rv_code.specs.declared.machine.RvOutcome.TheVariants.{Ended}
use Rattle.rv_code.specs.Loading.{HoldsUnit}
use Rattle.rv_code.specs.WellFormed.{IsWellFormed}
use Rattle.rv_code.specs.Machine.{IsRunFrom}
use Rattle.cp_first.specs.FirstForm.{IsFirst}
use Rattle.cp_first.specs.FirstUnit.{first_unit}

-- on every layout that holds the assembly with a stack of at least 16 bytes, whatever the stack holds at the start and
-- for every input: there is a number of steps from which on the run has ended with this status and has written these
-- bytes
abbrev pub MachineWrites : AsmUnit → List ℕ → ℕ → Type 0
MachineWrites asm bytes status =
    (layout : Layout) → HoldsUnit layout asm → 16 ≤ layout.stack → (first_stack : ℕ → ℕ) (input : List ℕ) →
    (steps : ℕ) × IsRunFrom asm layout first_stack input steps (Ended status, bytes)

-- the text is a unit of the first form, and this is its assembly
pub record IsAssemblyOf (text : List ℕ) (asm : AsmUnit) : Type 0 where
  pub first : (bytes : List ℕ) × (status : ℕ) × IsFirst text bytes status
  pub unit : (bytes : List ℕ) (status : ℕ) → IsFirst text bytes status → asm ≡ first_unit bytes status
  pub well_formed : IsWellFormed asm
  pub runs : (bytes : List ℕ) (status : ℕ) → IsFirst text bytes status → MachineWrites asm bytes status
