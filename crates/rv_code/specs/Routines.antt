-- The instructions before the functions: the start of the run, and the two routines.
use Rattle.std.specs.Prelude.{ℕ, ◌+◌, ◌*◌, List, [], ◌∷◌, ◌++◌, length, pos, negsuc}
use Rattle.rv_code.specs.declared.assembly.RvName.{RvName}
use Rattle.rv_code.specs.declared.assembly.RvName.TheVariants.{Lui, Jalr, Bge, Lbu, Sb, Addi, Andi, Ecall}
use Rattle.rv_code.specs.declared.assembly.Symbol.TheVariants.{Func, Cdata}
use Rattle.rv_code.specs.declared.assembly.Operand.{Operand}
use Rattle.rv_code.specs.declared.assembly.Operand.TheVariants.{Number, High, Low}
use Rattle.rv_code.specs.declared.assembly.AsmInstr.{AsmInstr}
use Rattle.rv_code.specs.Registers.{x_zero, x_ra, x_t0, x_t1, x_a0, x_a1, x_a2, x_a7}

-- an instruction, by its name, rd, rs1, rs2 and operand
abbrev pub instr : RvName → ℕ → ℕ → ℕ → Operand → AsmInstr
instr name rd rs1 rs2 operand = record { name = name; rd = rd; rs1 = rs1; rs2 = rs2; operand = operand }

-- `lui rd, operand`
abbrev pub lui : ℕ → Operand → AsmInstr
lui rd operand = instr Lui rd 0 0 operand

-- `addi rd, rs1, operand`
abbrev pub addi : ℕ → ℕ → Operand → AsmInstr
addi rd rs1 operand = instr Addi rd rs1 0 operand

-- `jalr rd, operand(rs1)`
abbrev pub jalr : ℕ → Operand → ℕ → AsmInstr
jalr rd operand rs1 = instr Jalr rd rs1 0 operand

abbrev pub ecall : AsmInstr
ecall = instr Ecall 0 0 0 (Number (pos 0))

-- the run begins here: it calls `main`, the function of this number, and ends with what `main` gives
abbrev pub entry_code : ℕ → List AsmInstr
entry_code main =
    lui x_t0 (High (Func main)) ∷
    jalr x_ra (Low (Func main)) x_t0 ∷
    addi x_a7 x_zero (Number (pos 93)) ∷
    ecall ∷ []

-- the address of the buffer byte, which has this offset, into a1
abbrev pub buffer_code : ℕ → List AsmInstr
buffer_code buffer =
    lui x_a1 (High (Cdata buffer)) ∷
    addi x_a1 x_a1 (Low (Cdata buffer)) ∷ []

-- the routine that reads a byte, and gives -1 at the end of the input: it asks for a byte, gives the one that came,
-- or gives -1
abbrev pub getchar_asks : ℕ → List AsmInstr
getchar_asks buffer =
    addi x_a0 x_zero (Number (pos 0)) ∷
    (buffer_code buffer ++
    addi x_a2 x_zero (Number (pos 1)) ∷
    addi x_a7 x_zero (Number (pos 63)) ∷
    ecall ∷ [])

abbrev pub getchar_byte : List AsmInstr
getchar_byte =
    instr Lbu x_a0 x_a1 0 (Number (pos 0)) ∷
    jalr x_zero (Number (pos 0)) x_ra ∷ []

abbrev pub getchar_end : List AsmInstr
getchar_end =
    addi x_a0 x_zero (Number (negsuc 0)) ∷
    jalr x_zero (Number (pos 0)) x_ra ∷ []

-- no byte came: over the instructions that give one. The label there is no operand's, so the operand is the distance
-- in bytes.
abbrev pub getchar_branch : AsmInstr
getchar_branch = instr Bge 0 x_zero x_a0 (Number (pos (4 * (1 + length getchar_byte))))

abbrev pub getchar_code : ℕ → List AsmInstr
getchar_code buffer = getchar_asks buffer ++ (getchar_branch ∷ (getchar_byte ++ getchar_end))

-- the routine that writes a byte, and gives it back
abbrev pub putchar_code : ℕ → List AsmInstr
putchar_code buffer =
    instr Andi x_t1 x_a0 0 (Number (pos 255)) ∷
    (buffer_code buffer ++
    instr Sb 0 x_a1 x_t1 (Number (pos 0)) ∷
    addi x_a0 x_zero (Number (pos 1)) ∷
    addi x_a2 x_zero (Number (pos 1)) ∷
    addi x_a7 x_zero (Number (pos 64)) ∷
    ecall ∷
    addi x_a0 x_t1 (Number (pos 0)) ∷
    jalr x_zero (Number (pos 0)) x_ra ∷ [])

-- the instructions before the functions
abbrev pub start_code : ℕ → ℕ → List AsmInstr
start_code main buffer = entry_code main ++ getchar_code buffer ++ putchar_code buffer

-- the indices of the two routines and of the first function, counted in instructions
abbrev pub getchar_index : ℕ
getchar_index = 4

abbrev pub putchar_index : ℕ
putchar_index = 15

abbrev pub functions_index : ℕ
functions_index = 25
