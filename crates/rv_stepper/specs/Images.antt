-- A unit in the memory of the stepper. No public contract names this file.
use Rattle.std.specs.Prelude.{◌≡◌, [], true}
use Rattle.cp_base.specs.declared.layout.Layout.{Layout}
use Rattle.cp_base.specs.Regions.{holds}
use Rattle.rv_code.specs.declared.assembly.AsmUnit.{AsmUnit}
use Rattle.rv_code.specs.Sizes.{data_size}
use Rattle.rv_code.specs.Loading.{code_size}
use Rattle.rv_code.specs.Machine.{loaded, first_state}
use Rattle.rv_stepper.specs.declared.load.Image.{Image}
use Rattle.rv_stepper.specs.States.{machine_of}
use Rattle.rv_stepper.specs.Output.{IsOf}

-- the program of the unit, and the state at its start with a stack of zeros
pub record IsImage (asm : AsmUnit) (layout : Layout) (image : Image) : Type 0 where
  pub held : holds layout (code_size asm) (data_size asm.items) ≡ true
  pub program : IsOf (loaded asm layout) image.code.items image.state
  pub first : machine_of image.state [] ≡ first_state (loaded asm layout) (λ _. 0)
