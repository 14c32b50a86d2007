-- The assembly of a unit of the first form.
use Rattle.std.specs.Prelude.{ℕ, List, [], ◌∷◌, ◌++◌, map, codes, pos, negsuc}
use Rattle.std.specs.List.{flat_map}
use Rattle.rv_code.specs.declared.assembly.RvName.TheVariants.{Sw, Lw}
use Rattle.rv_code.specs.declared.assembly.Symbol.TheVariants.{PutChar}
use Rattle.rv_code.specs.declared.assembly.Operand.TheVariants.{Number, High, Low}
use Rattle.rv_code.specs.declared.assembly.AsmInstr.{AsmInstr}
use Rattle.rv_code.specs.declared.assembly.AsmLine.{AsmLine}
use Rattle.rv_code.specs.declared.assembly.AsmLine.TheVariants.{Instr}
use Rattle.rv_code.specs.declared.assembly.AsmFunction.{AsmFunction}
use Rattle.rv_code.specs.declared.assembly.DataItem.TheVariants.{Zero}
use Rattle.rv_code.specs.declared.assembly.AsmUnit.{AsmUnit}
use Rattle.rv_code.specs.Registers.{x_zero, x_ra, x_sp, x_t0, x_a0}
use Rattle.rv_code.specs.Routines.{instr, lui, addi, jalr}

-- the bytes of the frame of `main`: the return address, and what rounds up to 16
abbrev pub frame_size : ℕ
frame_size = 16

-- sp goes down by the frame, and the return address is saved
abbrev pub head_code : List AsmInstr
head_code =
    addi x_sp x_sp (Number (negsuc 15)) ∷
    instr Sw 0 x_sp x_ra (Number (pos 0)) ∷ []

-- a call of the routine that writes the byte in a0
abbrev pub call_code : ℕ → List AsmInstr
call_code n =
    addi x_a0 x_zero (Number (pos n)) ∷
    lui x_t0 (High PutChar) ∷
    jalr x_ra (Low PutChar) x_t0 ∷ []

-- the status in a0, the return address and sp as before, and back
abbrev pub tail_code : ℕ → List AsmInstr
tail_code s =
    addi x_a0 x_zero (Number (pos s)) ∷
    instr Lw x_ra x_sp 0 (Number (pos 0)) ∷
    addi x_sp x_sp (Number (pos 16)) ∷
    jalr x_zero (Number (pos 0)) x_ra ∷ []

-- instructions as lines
abbrev pub lines_of : List AsmInstr → List AsmLine
lines_of code = map Instr code

abbrev pub main_lines : List ℕ → ℕ → List AsmLine
main_lines bytes s = lines_of head_code ++ (flat_map (λ n. lines_of (call_code n)) bytes ++ lines_of (tail_code s))

abbrev pub main_function : List ℕ → ℕ → AsmFunction
main_function bytes s = record { name = codes "main"; frame = frame_size; lines = main_lines bytes s }

-- the unit that writes these bytes and ends with this status; its data is the buffer byte
abbrev pub first_unit : List ℕ → ℕ → AsmUnit
first_unit bytes s = record { functions = main_function bytes s ∷ []; items = Zero 1 ∷ [] }
