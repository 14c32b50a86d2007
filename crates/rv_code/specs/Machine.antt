-- The machine that runs a loaded program: its state, one step, and a run.
-- The RISC-V Instruction Set Manual, Volume I, edition of December 2019: 1.4 and 1.5 (memory, instructions),
-- 2 (RV32I) and 7 (M). The environment calls are this project's own, with the numbers of Linux.
use Rattle.std.specs.Prelude.{◌≡◌, ℕ, zero, suc, ◌+◌, ◌-◌, ◌*◌, ◌/◌, ◌%◌, ◌≤◌, Bool, ◌==◌, nat_lt, nat_le, ◌&&◌, ◌||◌, not, if◌then◌else◌, List, [], ◌∷◌, ◌++◌, length, slice_get, slice_index, Option, Some, None, bit_and, bit_or, bit_xor, int_lt}
use Rattle.std.specs.List.{AllByRecursion}
use Rattle.cp_base.specs.declared.layout.Layout.{Layout}
use Rattle.cp_base.specs.Regions.{holds}
use Rattle.cp_base.specs.Words.{signed, sign_extended, sum, difference, product, shift_left, shift_right, shift_right_signed, less_signed, less_unsigned, quotient_signed, quotient_unsigned, remainder_signed, remainder_unsigned}
use Rattle.rv_code.specs.declared.machine.RvOutcome.{RvOutcome}
use Rattle.rv_code.specs.declared.machine.RvOutcome.TheVariants.{Ended, Running, Stuck}
use Rattle.rv_code.specs.declared.assembly.RvName.{RvName}
use Rattle.rv_code.specs.declared.assembly.RvName.TheVariants.{Lui, Jal, Jalr, Beq, Bne, Blt, Bge, Bltu, Bgeu, Lb, Lh, Lw, Lbu, Lhu, Sb, Sh, Sw, Addi, Slti, Sltiu, Xori, Ori, Andi, Slli, Srli, Srai, Add, Sub, Sll, Slt, Sltu, Xor, Srl, Sra, Or, And, Ecall, Mul, Div, Divu, Rem, Remu}
use Rattle.rv_code.specs.declared.assembly.AsmFunction.{AsmFunction}
use Rattle.rv_code.specs.declared.assembly.AsmUnit.{AsmUnit}
use Rattle.rv_code.specs.Sizes.{data_size}
use Rattle.rv_code.specs.Registers.{x_sp, x_a0, x_a1, x_a2, x_a7}
use Rattle.rv_code.specs.Loading.{LoadedInstr, loaded_code, loaded_data, code_size}

-- a program in memory
pub record LoadedProgram : Type 0 where
  pub layout : Layout
  pub code : List LoadedInstr
  pub bytes : List ℕ

abbrev pub loaded : AsmUnit → Layout → LoadedProgram
loaded asm layout = record { layout = layout; code = loaded_code asm layout; bytes = loaded_data asm layout }

-- the state between two instructions: the program counter, what the registers and the bytes of memory hold,
-- how many bytes of the input were taken, and the output
pub record Machine : Type 0 where
  pub pc : ℕ
  pub registers : ℕ → ℕ
  pub memory : ℕ → ℕ
  pub taken : ℕ
  pub out : List ℕ

-- f, but for its value at one place
abbrev pub put_at : (ℕ → ℕ) → ℕ → ℕ → ℕ → ℕ
put_at f place value x = if x == place then value else f x

-- x0 is 0 (2.1)
abbrev pub read : Machine → ℕ → ℕ
read m zero = 0
read m (suc r) = m.registers (suc r)

abbrev pub with_register : Machine → ℕ → ℕ → Machine
with_register m rd value = record m { registers = put_at m.registers rd value }

abbrev pub with_pc : Machine → ℕ → Machine
with_pc m pc = record m { pc = pc }

-- a number of bytes, the least first: memory is little-endian (2.6)
abbrev pub load_bytes : (ℕ → ℕ) → ℕ → ℕ → ℕ
load_bytes memory address zero = 0
load_bytes memory address (suc n) = memory address + 256 * load_bytes memory (address + 1) n

abbrev pub store_bytes : (ℕ → ℕ) → ℕ → ℕ → ℕ → ℕ → ℕ
store_bytes memory address zero value = memory
store_bytes memory address (suc n) value = store_bytes (put_at memory address (value % 256)) (address + 1) n (value / 256)

-- `size` bytes from an address on are inside `len` bytes from a base on
abbrev pub is_inside : ℕ → ℕ → ℕ → ℕ → Bool
is_inside base len address size = nat_le base address && nat_le (address + size) (base + len)

-- an access of `size` bytes is aligned, and wholly inside the data or inside the stack
abbrev pub can_access : LoadedProgram → ℕ → ℕ → Bool
can_access p address size =
    (address % size == 0)
    && (is_inside p.layout.cdata (length p.bytes) address size || is_inside (p.layout.top - p.layout.stack) p.layout.stack address size)

-- what one step comes to
pub data Next : Type 0 where
  Goes : Machine → Next
  Ends : (status : ℕ) → Next
  Sticks : Next

-- to the next instruction
abbrev pub goes_on : Machine → Next
goes_on m = Goes (with_pc m (sum m.pc 4))

-- a value into a register, and on
abbrev pub gives : Machine → ℕ → ℕ → Next
gives m rd value = goes_on (with_register m rd value)

-- the address of the next instruction into a register, and to the target (2.5)
abbrev pub jumps : Machine → ℕ → ℕ → Next
jumps m rd target = Goes (with_pc (with_register m rd (sum m.pc 4)) target)

-- to the target of a branch that is taken (2.5)
abbrev pub branches : Machine → Bool → ℕ → Next
branches m is_taken distance = if is_taken then Goes (with_pc m (sum m.pc distance)) else goes_on m

-- an access that is allowed (2.6)
abbrev pub accesses : LoadedProgram → ℕ → ℕ → Next → Next
accesses p address size next = if can_access p address size then next else Sticks

abbrev pub loads : LoadedProgram → Machine → ℕ → ℕ → ℕ → (ℕ → ℕ) → Next
loads p m rd address size extended = accesses p address size (gives m rd (extended (load_bytes m.memory address size)))

abbrev pub stores : LoadedProgram → Machine → ℕ → ℕ → ℕ → Next
stores p m address size value = accesses p address size (goes_on (record m { memory = store_bytes m.memory address size value }))

-- the next byte of the input at an address and 1 in a0, or 0 in a0 at its end
abbrev pub reads_byte : Machine → Option ℕ → ℕ → Next
reads_byte m None address = gives m x_a0 0
reads_byte m (Some byte) address = gives (record m { memory = put_at m.memory address (byte % 256); taken = m.taken + 1 }) x_a0 1

-- the byte at an address to the output
abbrev pub writes_byte : Machine → ℕ → Next
writes_byte m address = gives (record m { out = m.out ++ m.memory address ∷ [] }) x_a0 1

-- the environment call: a7 = 63 reads a byte from a0 = 0, 64 writes a byte to a0 = 1, 93 ends the run (2.8)
abbrev pub environment_call : LoadedProgram → List ℕ → Machine → Next
environment_call p input m =
    if (read m x_a7 == 63) && (read m x_a0 == 0) && (read m x_a2 == 1) && can_access p (read m x_a1) 1
    then reads_byte m (slice_get input m.taken) (read m x_a1)
    else if (read m x_a7 == 64) && (read m x_a0 == 1) && (read m x_a2 == 1) && can_access p (read m x_a1) 1
    then writes_byte m (read m x_a1)
    else if read m x_a7 == 93
    then Ends (read m x_a0 % 256)
    else Sticks

-- one instruction, on the destination rd, the values a of rs1 and b of rs2, and the immediate v
abbrev pub executes : LoadedProgram → List ℕ → Machine → RvName → ℕ → ℕ → ℕ → ℕ → Next
-- 2.4: upper immediate
executes p input m Lui rd a b v = gives m rd (product v 4096)
-- 2.5: jumps and branches, by distance; `jalr` clears bit 0 of its target
executes p input m Jal rd a b v = jumps m rd (sum m.pc v)
executes p input m Jalr rd a b v = jumps m rd (sum a v - sum a v % 2)
executes p input m Beq rd a b v = branches m (a == b) v
executes p input m Bne rd a b v = branches m (not (a == b)) v
executes p input m Blt rd a b v = branches m (int_lt (signed a) (signed b)) v
executes p input m Bge rd a b v = branches m (not (int_lt (signed a) (signed b))) v
executes p input m Bltu rd a b v = branches m (nat_lt a b) v
executes p input m Bgeu rd a b v = branches m (not (nat_lt a b)) v
-- 2.6: loads and stores, at the sum of rs1 and the immediate
executes p input m Lb rd a b v = loads p m rd (sum a v) 1 (sign_extended 8)
executes p input m Lh rd a b v = loads p m rd (sum a v) 2 (sign_extended 16)
executes p input m Lw rd a b v = loads p m rd (sum a v) 4 (λ w. w)
executes p input m Lbu rd a b v = loads p m rd (sum a v) 1 (λ w. w)
executes p input m Lhu rd a b v = loads p m rd (sum a v) 2 (λ w. w)
executes p input m Sb rd a b v = stores p m (sum a v) 1 b
executes p input m Sh rd a b v = stores p m (sum a v) 2 b
executes p input m Sw rd a b v = stores p m (sum a v) 4 b
-- 2.4: operations with an immediate
executes p input m Addi rd a b v = gives m rd (sum a v)
executes p input m Slti rd a b v = gives m rd (less_signed a v)
executes p input m Sltiu rd a b v = gives m rd (less_unsigned a v)
executes p input m Xori rd a b v = gives m rd (bit_xor a v)
executes p input m Ori rd a b v = gives m rd (bit_or a v)
executes p input m Andi rd a b v = gives m rd (bit_and a v)
executes p input m Slli rd a b v = gives m rd (shift_left a v)
executes p input m Srli rd a b v = gives m rd (shift_right a v)
executes p input m Srai rd a b v = gives m rd (shift_right_signed a v)
-- 2.4: operations of two registers
executes p input m Add rd a b v = gives m rd (sum a b)
executes p input m Sub rd a b v = gives m rd (difference a b)
executes p input m Sll rd a b v = gives m rd (shift_left a b)
executes p input m Slt rd a b v = gives m rd (less_signed a b)
executes p input m Sltu rd a b v = gives m rd (less_unsigned a b)
executes p input m Xor rd a b v = gives m rd (bit_xor a b)
executes p input m Srl rd a b v = gives m rd (shift_right a b)
executes p input m Sra rd a b v = gives m rd (shift_right_signed a b)
executes p input m Or rd a b v = gives m rd (bit_or a b)
executes p input m And rd a b v = gives m rd (bit_and a b)
-- 2.8: the environment
executes p input m Ecall rd a b v = environment_call p input m
-- 7.1 and 7.2: products and division
executes p input m Mul rd a b v = gives m rd (product a b)
executes p input m Div rd a b v = gives m rd (quotient_signed a b)
executes p input m Divu rd a b v = gives m rd (quotient_unsigned a b)
executes p input m Rem rd a b v = gives m rd (remainder_signed a b)
executes p input m Remu rd a b v = gives m rd (remainder_unsigned a b)

-- the instruction at an address, which is a multiple of 4 in the code
abbrev pub fetched : LoadedProgram → ℕ → Option LoadedInstr
fetched p pc = if (pc % 4 == 0) && nat_le p.layout.code pc then slice_get p.code ((pc - p.layout.code) / 4) else None

-- what a machine does with the instruction that was fetched
abbrev pub obeys : LoadedProgram → List ℕ → Machine → Option LoadedInstr → Next
obeys p input m None = Sticks
obeys p input m (Some i) = executes p input m i.name i.rd (read m i.rs1) (read m i.rs2) i.value

-- one step
abbrev pub step : LoadedProgram → List ℕ → Machine → Next
step p input m = obeys p input m (fetched p m.pc)

-- from what one step came to, with the rest of a run
abbrev pub resumes : Machine → Next → (Machine → RvOutcome × List ℕ) → RvOutcome × List ℕ
resumes m (Goes next) rest = rest next
resumes m (Ends status) rest = (Ended status, m.out)
resumes m Sticks rest = (Stuck m.pc, m.out)

-- a number of steps from a state: the outcome, and the output so far
abbrev pub run : LoadedProgram → List ℕ → ℕ → Machine → RvOutcome × List ℕ
run p input zero m = (Running, m.out)
run p input (suc n) m = resumes m (step p input m) (run p input n)

-- the data in memory, and elsewhere the low byte of what is given for the address: a program reaches only the stack there
abbrev pub first_memory : LoadedProgram → (ℕ → ℕ) → ℕ → ℕ
first_memory p first_stack address =
    if is_inside p.layout.cdata (length p.bytes) address 1 then slice_index p.bytes (address - p.layout.cdata) else first_stack address % 256

-- the start: at the first instruction, sp at the top of the stack, every other register 0
abbrev pub first_state : LoadedProgram → (ℕ → ℕ) → Machine
first_state p first_stack = record {
  pc = p.layout.code;
  registers = put_at (λ _. 0) x_sp p.layout.top;
  memory = first_memory p first_stack;
  taken = 0;
  out = [];
}

-- so many steps of a unit at a layout, from what the stack holds at the start. A layout that does not hold the unit is
-- stuck before any step.
unfoldable pub rv_run : AsmUnit → Layout → (ℕ → ℕ) → List ℕ → ℕ → RvOutcome × List ℕ
rv_run asm layout first_stack input steps =
    if holds layout (code_size asm) (data_size asm.items)
    then run (loaded asm layout) input steps (first_state (loaded asm layout) first_stack)
    else (Stuck layout.code, [])

-- from this number of steps on, the run has come to this outcome and this output
abbrev pub IsRunFrom : AsmUnit → Layout → (ℕ → ℕ) → List ℕ → ℕ → RvOutcome × List ℕ → Type 0
IsRunFrom asm layout first_stack input steps result = (more : ℕ) → steps ≤ more → rv_run asm layout first_stack input more ≡ result

-- a run that has ended is the same at every greater number of steps
abbrev pub EndedRunStays : Type 0
EndedRunStays =
    (asm : AsmUnit) (layout : Layout) (first_stack : ℕ → ℕ) (input : List ℕ) (steps status : ℕ) (out : List ℕ)
    → rv_run asm layout first_stack input steps ≡ (Ended status, out) → IsRunFrom asm layout first_stack input steps (Ended status, out)

-- and so is one that is stuck
abbrev pub StuckRunStays : Type 0
StuckRunStays =
    (asm : AsmUnit) (layout : Layout) (first_stack : ℕ → ℕ) (input : List ℕ) (steps pc : ℕ) (out : List ℕ)
    → rv_run asm layout first_stack input steps ≡ (Stuck pc, out) → IsRunFrom asm layout first_stack input steps (Stuck pc, out)

-- so many active calls fit the stack, whichever functions they are of
abbrev pub Fits : AsmUnit → Layout → ℕ → Type 0
Fits asm layout depth = AllByRecursion (λ (function : AsmFunction). depth * function.frame ≤ layout.stack) asm.functions
