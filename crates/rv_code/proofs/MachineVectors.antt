-- Runs computed from the definitions, for every first content of the stack: whole programs, the edges of memory, and
-- the rules that are easy to miss.
use Rattle.std.proofs.Common.{◌≡◌, refl, pos, negsuc, List, [], ◌∷◌, ℕ}
use Rattle.std.specs.Prelude.{codes}
use Rattle.cp_base.specs.declared.layout.Layout.{Layout}
use Rattle.rv_code.specs.declared.machine.RvOutcome.TheVariants.{Ended, Running, Stuck}
use Rattle.rv_code.specs.declared.assembly.RvName.TheVariants.{Lw, Sw, Lb, Sh, Srai, Div, Bge}
use Rattle.rv_code.specs.declared.assembly.Symbol.TheVariants.{Block, PutChar, GetChar}
use Rattle.rv_code.specs.declared.assembly.Operand.{Operand}
use Rattle.rv_code.specs.declared.assembly.Operand.TheVariants.{Number, High, Low, To}
use Rattle.rv_code.specs.declared.assembly.AsmLine.{AsmLine}
use Rattle.rv_code.specs.declared.assembly.AsmLine.TheVariants.{Label, Instr}
use Rattle.rv_code.specs.declared.assembly.AsmUnit.{AsmUnit}
use Rattle.rv_code.specs.declared.assembly.DataItem.TheVariants.{Zero}
use Rattle.rv_code.specs.Registers.{x_zero, x_ra, x_sp, x_t0, x_t1, x_a0}
use Rattle.rv_code.specs.Routines.{instr, lui, addi, jalr}
use Rattle.rv_code.specs.Machine.{rv_run}

-- the number of an operand
abbrev is : ℕ → Operand
is n = Number (pos n)

-- a unit whose `main` has these lines, and four bytes of data before the buffer byte
abbrev unit : List AsmLine → AsmUnit
unit lines = record { functions = record { name = codes "main"; frame = 16; lines = lines } ∷ []; items = Zero 5 ∷ [] }

abbrev layout : Layout
layout = record { code = 65536; cdata = 268435456; top = 2147483648; stack = 1048576 }

-- `main` returns through t1, in which it kept the return address
abbrev back : AsmLine
back = Instr (jalr x_zero (is 0) x_t1)

abbrev kept : AsmLine
kept = Instr (addi x_t1 x_ra (is 0))

abbrev hi : AsmUnit
hi = unit (
    Instr (addi x_sp x_sp (Number (negsuc 15))) ∷ Instr (instr Sw 0 x_sp x_ra (is 0)) ∷
    Instr (addi x_a0 x_zero (is 72)) ∷ Instr (lui x_t0 (High PutChar)) ∷ Instr (jalr x_ra (Low PutChar) x_t0) ∷
    Instr (addi x_a0 x_zero (is 105)) ∷ Instr (lui x_t0 (High PutChar)) ∷ Instr (jalr x_ra (Low PutChar) x_t0) ∷
    Instr (addi x_a0 x_zero (is 0)) ∷ Instr (instr Lw x_ra x_sp 0 (is 0)) ∷
    Instr (addi x_sp x_sp (is 16)) ∷ Instr (jalr x_zero (is 0) x_ra) ∷ [])

pub writes_hi : (first_stack : ℕ → ℕ) → rv_run hi layout first_stack [] 1000 ≡ (Ended 0, 72 ∷ 105 ∷ [])
unfolding rv_run
writes_hi first_stack = refl

pub no_step : (first_stack : ℕ → ℕ) → rv_run hi layout first_stack [] 0 ≡ (Running, [])
unfolding rv_run
no_step first_stack = refl

pub layout_does_not_hold : (first_stack : ℕ → ℕ) → rv_run hi (record layout { cdata = 65536 }) first_stack [] 0 ≡ (Stuck 65536, [])
unfolding rv_run
layout_does_not_hold first_stack = refl

-- the byte of the input, and -1 at its end
abbrev echo : AsmUnit
echo = unit (kept ∷ Instr (lui x_t0 (High GetChar)) ∷ Instr (jalr x_ra (Low GetChar) x_t0) ∷ back ∷ [])

pub reads_a_byte : (first_stack : ℕ → ℕ) → rv_run echo layout first_stack (200 ∷ []) 50 ≡ (Ended 200, [])
unfolding rv_run
reads_a_byte first_stack = refl

pub reads_the_end : (first_stack : ℕ → ℕ) → rv_run echo layout first_stack [] 50 ≡ (Ended 255, [])
unfolding rv_run
reads_the_end first_stack = refl

-- the upper byte of a half word is the second, and `lb` extends its sign
pub bytes_go_least_first : (first_stack : ℕ → ℕ) →
    rv_run (unit (
    Instr (lui x_t0 (is 8)) ∷ Instr (addi x_t0 x_t0 (is 256)) ∷ Instr (instr Sh 0 x_sp x_t0 (Number (negsuc 1))) ∷
    Instr (instr Lb x_a0 x_sp 0 (Number (negsuc 0))) ∷ Instr (instr Srai x_a0 x_a0 0 (is 4)) ∷ Instr (jalr x_zero (is 0) x_ra) ∷ []))
    layout first_stack [] 50
    ≡ (Ended 248, [])
unfolding rv_run
bytes_go_least_first first_stack = refl

-- the word at the top of the stack is outside it
pub past_the_top : (first_stack : ℕ → ℕ) → rv_run (unit (Instr (instr Lw x_a0 x_sp 0 (is 0)) ∷ [])) layout first_stack [] 50 ≡ (Stuck 65636, [])
unfolding rv_run
past_the_top first_stack = refl

pub not_aligned : (first_stack : ℕ → ℕ) → rv_run (unit (Instr (instr Lw x_a0 x_sp 0 (Number (negsuc 5))) ∷ [])) layout first_stack [] 50 ≡ (Stuck 65636, [])
unfolding rv_run
not_aligned first_stack = refl

pub past_the_code : (first_stack : ℕ → ℕ) → rv_run (unit (Instr (addi x_zero x_zero (is 7)) ∷ [])) layout first_stack [] 50 ≡ (Stuck 65640, [])
unfolding rv_run
past_the_code first_stack = refl

-- `jalr a0, 113(a0)` reads a0 before it writes it, and clears bit 0 of 65649; the link's low byte is the status
pub jump_clears_bit_0 : (first_stack : ℕ → ℕ) → rv_run (unit (kept ∷ Instr (lui x_a0 (is 16)) ∷ Instr (jalr x_a0 (is 113) x_a0) ∷ back ∷ [])) layout first_stack [] 50 ≡ (Ended 112, [])
unfolding rv_run
jump_clears_bit_0 first_stack = refl

-- -7 / 2 is -3 in a run too, and a branch by a label goes backwards: a0 falls from 3 to -1
pub divides : (first_stack : ℕ → ℕ) → rv_run (unit (Instr (addi x_a0 x_zero (Number (negsuc 6))) ∷ Instr (addi x_t0 x_zero (is 2)) ∷ Instr (instr Div x_a0 x_a0 x_t0 (is 0)) ∷ Instr (jalr x_zero (is 0) x_ra) ∷ [])) layout first_stack [] 50 ≡ (Ended 253, [])
unfolding rv_run
divides first_stack = refl

pub branches_back : (first_stack : ℕ → ℕ) → rv_run (unit (Instr (addi x_a0 x_zero (is 3)) ∷ Label 0 1 ∷ Instr (addi x_a0 x_a0 (Number (negsuc 0))) ∷ Instr (instr Bge 0 x_a0 x_zero (To (Block 0 1))) ∷ Instr (jalr x_zero (is 0) x_ra) ∷ [])) layout first_stack [] 50 ≡ (Ended 255, [])
unfolding rv_run
branches_back first_stack = refl
