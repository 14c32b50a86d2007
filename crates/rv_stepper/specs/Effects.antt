-- What an instruction does with the state of the machine. No public contract names this file.
use Rattle.std.specs.Prelude.{ℕ, List}
use Rattle.rv_code.specs.Machine.{LoadedProgram, Machine, Next, gives, jumps, branches, loads, stores, environment_call}
use Rattle.rv_stepper.specs.declared.effect.Effect.{Effect}
use Rattle.rv_stepper.specs.declared.effect.Effect.TheVariants.{Gives, Jumps, Branches, Loads, Stores, Calls}
use Rattle.rv_stepper.specs.Space.{width_of, extended}

-- an effect, with the destination rd, the word of rs2 and the distance of a branch
abbrev pub does : LoadedProgram → List ℕ → Machine → ℕ → ℕ → ℕ → Effect → Next
does p input m rd two value (Gives word) = gives m rd word
does p input m rd two value (Jumps target) = jumps m rd target
does p input m rd two value (Branches is_taken) = branches m is_taken value
does p input m rd two value (Loads kind address) = loads p m rd address (width_of kind) (extended kind)
does p input m rd two value (Stores kind address) = stores p m address (width_of kind) two
does p input m rd two value Calls = environment_call p input m
