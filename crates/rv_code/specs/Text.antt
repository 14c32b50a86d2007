-- The text of a unit, line by line.
use Rattle.std.specs.Prelude.{ℕ, zero, suc, List, [], ◌++◌, codes, Option, Some, None, slice_get}
use Rattle.std.specs.List.{flat_map}
use Rattle.std.specs.Fmt.{decimal, signed_decimal}
use Rattle.rv_code.specs.declared.assembly.Symbol.{Symbol}
use Rattle.rv_code.specs.declared.assembly.Symbol.TheVariants.{Block, Func, GetChar, PutChar, Cdata}
use Rattle.rv_code.specs.declared.assembly.Operand.{Operand}
use Rattle.rv_code.specs.declared.assembly.Operand.TheVariants.{Number, High, Low, To}
use Rattle.rv_code.specs.declared.assembly.AsmInstr.{AsmInstr}
use Rattle.rv_code.specs.declared.assembly.AsmLine.{AsmLine}
use Rattle.rv_code.specs.declared.assembly.AsmLine.TheVariants.{Label, Instr}
use Rattle.rv_code.specs.declared.assembly.AsmFunction.{AsmFunction}
use Rattle.rv_code.specs.declared.assembly.AsmUnit.{AsmUnit}
use Rattle.rv_code.specs.declared.assembly.DataItem.{DataItem}
use Rattle.rv_code.specs.declared.assembly.DataItem.TheVariants.{Zero, Byte, Address}
use Rattle.rv_code.specs.declared.form.Form.{Form}
use Rattle.rv_code.specs.declared.form.Form.TheVariants.{Upper, Jump, Indirect, Store, Branch, Immediate, Shift, Registers, Environment}
use Rattle.rv_code.specs.Forms.{name_text, form_of}
use Rattle.rv_code.specs.Registers.{register_text}
use Rattle.rv_code.specs.Sizes.{buffer_offset}
use Rattle.rv_code.specs.Routines.{entry_code, getchar_asks, getchar_branch, getchar_byte, getchar_end, putchar_code}
use Rattle.rv_code.specs.Places.{main_number}

-- a number of bytes after a symbol, which is not printed where it is 0
abbrev pub plus_text : ℕ → List ℕ
plus_text zero = []
plus_text (suc n) = codes "+" ++ decimal (suc n)

-- a place in the data section
unfoldable pub cdata_text : ℕ → List ℕ
cdata_text offset = codes "cdata" ++ plus_text offset

-- the name of the function of this number
abbrev pub name_of : Option AsmFunction → List ℕ
name_of None = []
name_of (Some function) = function.name

-- the label of a block: the number of its function, and its own number there
abbrev pub label_text : ℕ → ℕ → List ℕ
label_text function number = codes ".L" ++ decimal function ++ codes "_" ++ decimal number

abbrev pub symbol_text : List AsmFunction → Symbol → List ℕ
symbol_text functions (Block function number) = label_text function number
symbol_text functions (Func number) = codes "c_" ++ name_of (slice_get functions number)
symbol_text functions GetChar = codes "c_getchar"
symbol_text functions PutChar = codes "c_putchar"
symbol_text functions (Cdata offset) = cdata_text offset

abbrev pub operand_text : List AsmFunction → Operand → List ℕ
operand_text functions (Number value) = signed_decimal value
operand_text functions (High symbol) = codes "%hi(" ++ symbol_text functions symbol ++ codes ")"
operand_text functions (Low symbol) = codes "%lo(" ++ symbol_text functions symbol ++ codes ")"
operand_text functions (To symbol) = symbol_text functions symbol

-- what stands between two fields
abbrev pub comma : List ℕ
comma = codes ", "

-- the fields of an instruction whose operand has this text, in the order of its form
abbrev pub fields_text : List ℕ → Form → AsmInstr → List ℕ
fields_text operand Upper i = codes " " ++ register_text i.rd ++ comma ++ operand
fields_text operand Jump i = codes " " ++ register_text i.rd ++ comma ++ operand
fields_text operand Indirect i = codes " " ++ register_text i.rd ++ comma ++ operand ++ codes "(" ++ register_text i.rs1 ++ codes ")"
fields_text operand Store i = codes " " ++ register_text i.rs2 ++ comma ++ operand ++ codes "(" ++ register_text i.rs1 ++ codes ")"
fields_text operand Branch i = codes " " ++ register_text i.rs1 ++ comma ++ register_text i.rs2 ++ comma ++ operand
fields_text operand Immediate i = codes " " ++ register_text i.rd ++ comma ++ register_text i.rs1 ++ comma ++ operand
fields_text operand Shift i = codes " " ++ register_text i.rd ++ comma ++ register_text i.rs1 ++ comma ++ operand
fields_text operand Registers i = codes " " ++ register_text i.rd ++ comma ++ register_text i.rs1 ++ comma ++ register_text i.rs2
fields_text operand Environment i = []

-- the line of an instruction whose operand has this text
abbrev pub instr_line : List ℕ → AsmInstr → List ℕ
instr_line operand i = codes "\t" ++ name_text i.name ++ fields_text operand (form_of i.name) i ++ codes "\n"

abbrev pub instr_text : List AsmFunction → AsmInstr → List ℕ
instr_text functions i = instr_line (operand_text functions i.operand) i

-- instructions, a line each
abbrev pub code_text : List AsmFunction → List AsmInstr → List ℕ
code_text functions code = flat_map (instr_text functions) code

abbrev pub line_text : List AsmFunction → AsmLine → List ℕ
line_text functions (Label function number) = label_text function number ++ codes ":\n"
line_text functions (Instr i) = instr_text functions i

abbrev pub function_text : List AsmFunction → AsmFunction → List ℕ
function_text functions function = codes "c_" ++ function.name ++ codes ":\n" ++ flat_map (line_text functions) function.lines

abbrev pub item_text : DataItem → List ℕ
item_text (Zero count) = codes "\t.zero " ++ decimal count ++ codes "\n"
item_text (Byte value) = codes "\t.byte " ++ decimal value ++ codes "\n"
item_text (Address offset) = codes "\t.word " ++ cdata_text offset ++ codes "\n"

-- the start of the run, where the function `main` has this number
abbrev pub entry_text : List AsmFunction → ℕ → List ℕ
entry_text functions main = codes "\t.text\n\t.globl _start\n_start:\n" ++ code_text functions (entry_code main)

-- the routine that reads; its branch is printed with the label of the place that it goes to. The routines name no
-- function.
unfoldable pub getchar_text : ℕ → List ℕ
getchar_text buffer =
    symbol_text [] GetChar ++ codes ":\n"
    ++ (code_text [] (getchar_asks buffer) ++ (instr_line (codes ".Lend") getchar_branch
    ++ (code_text [] getchar_byte ++ (codes ".Lend:\n" ++ code_text [] getchar_end))))

-- the routine that writes
unfoldable pub putchar_text : ℕ → List ℕ
putchar_text buffer = symbol_text [] PutChar ++ codes ":\n" ++ code_text [] (putchar_code buffer)

-- the head of a unit, where `main` has this number and the buffer byte this offset in the data
abbrev pub start_text : List AsmFunction → ℕ → ℕ → List ℕ
start_text functions main buffer = entry_text functions main ++ getchar_text buffer ++ putchar_text buffer

-- what stands before the items of the data section
abbrev pub data_text : List ℕ
data_text = codes "\t.data\n\t.balign 16\ncdata:\n"

-- the whole text
unfoldable pub text_of : AsmUnit → List ℕ
text_of asm = start_text asm.functions (main_number asm.functions) (buffer_offset asm.items) ++ flat_map (function_text asm.functions) asm.functions ++ data_text ++ flat_map item_text asm.items
