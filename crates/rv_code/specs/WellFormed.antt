-- Which units are well formed.
use Rattle.std.specs.Prelude.{◌≡◌, ℕ, ◌*◌, ◌<◌, ◌^◌, ◌==◌, ◌||◌, List, [], ◌∷◌, ◌++◌, length, map, codes, Some, slice_get, Contains, IsTrue, IsSome, ℤ, pos, negsuc, ◌+ℤ◌, ◌≤ℤ◌}
use Rattle.std.specs.List.{AllByRecursion, IsDistinct}
use Rattle.std.specs.Bool.{nat_eq}
use Rattle.std.specs.Str.{bytes_eq}
use Rattle.std.specs.Char.{is_ascii_alphabetic, is_ascii_alphanumeric}
use Rattle.rv_code.specs.declared.assembly.Symbol.{Symbol}
use Rattle.rv_code.specs.declared.assembly.Symbol.TheVariants.{Block, Func, GetChar, PutChar, Cdata}
use Rattle.rv_code.specs.declared.assembly.Operand.{Operand}
use Rattle.rv_code.specs.declared.assembly.Operand.TheVariants.{Number, High, Low, To}
use Rattle.rv_code.specs.declared.assembly.AsmInstr.{AsmInstr}
use Rattle.rv_code.specs.declared.assembly.AsmLine.{AsmLine}
use Rattle.rv_code.specs.declared.assembly.AsmLine.TheVariants.{Label, Instr}
use Rattle.rv_code.specs.declared.assembly.AsmFunction.{AsmFunction}
use Rattle.rv_code.specs.declared.assembly.AsmUnit.{AsmUnit}
use Rattle.rv_code.specs.declared.assembly.DataItem.{DataItem}
use Rattle.rv_code.specs.declared.assembly.DataItem.TheVariants.{Zero, Byte, Address}
use Rattle.rv_code.specs.declared.form.Form.{Form}
use Rattle.rv_code.specs.declared.form.Form.TheVariants.{Upper, Jump, Indirect, Store, Branch, Immediate, Shift, Registers, Environment}
use Rattle.rv_code.specs.Forms.{form_of}
use Rattle.rv_code.specs.Places.{labels_of, whole_code, symbol_index}

-- a letter or `_`, and then letters, digits and `_` (C99 6.4.2.1)
abbrev pub IsIdentifier : List ℕ → Type 0
IsIdentifier [] = ⊥
IsIdentifier (first ∷ rest) =
    IsTrue (is_ascii_alphabetic first || first == 95) × AllByRecursion (λ c. IsTrue (is_ascii_alphanumeric c || c == 95)) rest

-- the names of the functions
abbrev pub names_of : List AsmFunction → List (List ℕ)
names_of functions = map (λ function. function.name) functions

pub record AreNames (names : List (List ℕ)) : Type 0 where
  pub identifiers : AllByRecursion IsIdentifier names
  pub distinct : IsDistinct bytes_eq names
  pub no_getchar : Contains names (codes "getchar") → ⊥
  pub no_putchar : Contains names (codes "putchar") → ⊥
  pub main : Contains names (codes "main")

-- what a symbol names is there
abbrev pub IsThere : List AsmFunction → Symbol → Type 0
IsThere functions (Block number label) = IsSome (symbol_index functions (Block number label))
IsThere functions (Func number) = number < length functions
IsThere functions GetChar = Unit {0}
IsThere functions PutChar = Unit {0}
IsThere functions (Cdata offset) = offset < 2 ^ 32

-- the target of a jump or a branch is a place in the code
abbrev pub IsTarget : List AsmFunction → Operand → Type 0
IsTarget functions (To (Cdata offset)) = ⊥
IsTarget functions (To (Block number label)) = IsThere functions (Block number label)
IsTarget functions (To (Func number)) = IsThere functions (Func number)
IsTarget functions (To GetChar) = Unit {0}
IsTarget functions (To PutChar) = Unit {0}
IsTarget functions (Number value) = ⊥
IsTarget functions (High symbol) = ⊥
IsTarget functions (Low symbol) = ⊥

-- the immediate of `lui`: 20 bits
abbrev pub IsUpperImmediate : List AsmFunction → Operand → Type 0
IsUpperImmediate functions (Number value) = (pos 0 ≤ℤ value) × (value ≤ℤ pos 1048575)
IsUpperImmediate functions (High symbol) = IsThere functions symbol
IsUpperImmediate functions (Low symbol) = ⊥
IsUpperImmediate functions (To symbol) = ⊥

-- an immediate of 12 bits with a sign
abbrev pub IsImmediate : List AsmFunction → Operand → Type 0
IsImmediate functions (Number value) = (negsuc 2047 ≤ℤ value) × (value ≤ℤ pos 2047)
IsImmediate functions (Low symbol) = IsThere functions symbol
IsImmediate functions (High symbol) = ⊥
IsImmediate functions (To symbol) = ⊥

-- the amount of a shift: 5 bits
abbrev pub IsAmount : Operand → Type 0
IsAmount (Number value) = (pos 0 ≤ℤ value) × (value ≤ℤ pos 31)
IsAmount (High symbol) = ⊥
IsAmount (Low symbol) = ⊥
IsAmount (To symbol) = ⊥

-- the fields of a form, and 0 in each field that it lacks
abbrev pub HasForm : List AsmFunction → Form → AsmInstr → Type 0
HasForm functions Upper i = (i.rs1 ≡ 0) × (i.rs2 ≡ 0) × IsUpperImmediate functions i.operand
HasForm functions Jump i = (i.rs1 ≡ 0) × (i.rs2 ≡ 0) × IsTarget functions i.operand
HasForm functions Indirect i = (i.rs2 ≡ 0) × IsImmediate functions i.operand
HasForm functions Store i = (i.rd ≡ 0) × IsImmediate functions i.operand
HasForm functions Branch i = (i.rd ≡ 0) × IsTarget functions i.operand
HasForm functions Immediate i = (i.rs2 ≡ 0) × IsImmediate functions i.operand
HasForm functions Shift i = (i.rs2 ≡ 0) × IsAmount i.operand
HasForm functions Registers i = i.operand ≡ Number (pos 0)
HasForm functions Environment i = (i.rd ≡ 0) × (i.rs1 ≡ 0) × (i.rs2 ≡ 0) × (i.operand ≡ Number (pos 0))

pub record IsInstr (functions : List AsmFunction) (i : AsmInstr) : Type 0 where
  pub rd : i.rd < 32
  pub rs1 : i.rs1 < 32
  pub rs2 : i.rs2 < 32
  pub form : HasForm functions (form_of i.name) i

-- a line of the function of this number
abbrev pub IsLine : List AsmFunction → ℕ → AsmLine → Type 0
IsLine functions here (Label function number) = (function ≡ here) × (number < 2 ^ 64)
IsLine functions here (Instr i) = IsInstr functions i

pub record IsFunction (functions : List AsmFunction) (here : ℕ) (function : AsmFunction) : Type 0 where
  pub lines : AllByRecursion (IsLine functions here) function.lines
  pub labels : IsDistinct nat_eq (labels_of function.lines)

-- how far from the instruction its target may be, in bytes, backwards and forwards: Volume I, 2.5
abbrev pub IsReach : Form → ℤ → Type 0
IsReach Branch distance = (negsuc 4095 ≤ℤ distance) × (distance ≤ℤ pos 4094)
IsReach Jump distance = (negsuc 1048575 ≤ℤ distance) × (distance ≤ℤ pos 1048574)
IsReach Upper distance = Unit {0}
IsReach Indirect distance = Unit {0}
IsReach Store distance = Unit {0}
IsReach Immediate distance = Unit {0}
IsReach Shift distance = Unit {0}
IsReach Registers distance = Unit {0}
IsReach Environment distance = Unit {0}

-- the instruction at an index reaches its target, whose address less its own is the distance
abbrev pub Reaches : List AsmFunction → ℕ → AsmInstr → Type 0
Reaches functions index i =
    (symbol : Symbol) (target : ℕ) (distance : ℤ) → i.operand ≡ To symbol → symbol_index functions symbol ≡ Some target
    → pos (4 * target) ≡ pos (4 * index) +ℤ distance → IsReach (form_of i.name) distance

-- no empty run, and no zero byte outside a run
abbrev pub IsItem : DataItem → Type 0
IsItem (Zero count) = (0 < count) × (count < 2 ^ 32)
IsItem (Byte value) = (0 < value) × (value < 2 ^ 8)
IsItem (Address offset) = offset < 2 ^ 32

pub record AreItems (items : List DataItem) : Type 0 where
  pub each : AllByRecursion IsItem items
  -- a run of zero bytes is one item
  pub longest : (before after : List DataItem) (m n : ℕ) → items ≡ before ++ (Zero m ∷ Zero n ∷ after) → ⊥
  -- the buffer byte
  pub buffer : (before : List DataItem) × (n : ℕ) × (items ≡ before ++ Zero n ∷ [])

pub record IsWellFormed (asm : AsmUnit) : Type 0 where
  pub count : length asm.functions < 2 ^ 64
  pub names : AreNames (names_of asm.functions)
  pub functions : (number : ℕ) (function : AsmFunction) → slice_get asm.functions number ≡ Some function → IsFunction asm.functions number function
  pub near : (index : ℕ) (i : AsmInstr) → slice_get (whole_code asm) index ≡ Some i → Reaches asm.functions index i
  pub items : AreItems asm.items
