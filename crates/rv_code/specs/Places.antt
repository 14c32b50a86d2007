-- The instructions of a unit in their order, and where labels stand among them.
use Rattle.std.specs.Prelude.{ℕ, suc, ◌+◌, ◌==◌, List, [], ◌∷◌, ◌++◌, length, take, codes, Option, Some, None, slice_get, unwrap_or, position, if◌then◌else◌}
use Rattle.std.specs.List.{flat_map}
use Rattle.std.specs.Option.{option_map, option_and_then}
use Rattle.std.specs.Str.{bytes_eq}
use Rattle.rv_code.specs.declared.assembly.Symbol.{Symbol}
use Rattle.rv_code.specs.declared.assembly.Symbol.TheVariants.{Block, Func, GetChar, PutChar, Cdata}
use Rattle.rv_code.specs.declared.assembly.AsmInstr.{AsmInstr}
use Rattle.rv_code.specs.declared.assembly.AsmLine.{AsmLine}
use Rattle.rv_code.specs.declared.assembly.AsmLine.TheVariants.{Label, Instr}
use Rattle.rv_code.specs.declared.assembly.AsmFunction.{AsmFunction}
use Rattle.rv_code.specs.declared.assembly.AsmUnit.{AsmUnit}
use Rattle.rv_code.specs.Sizes.{buffer_offset}
use Rattle.rv_code.specs.Routines.{start_code, getchar_index, putchar_index, functions_index}

-- the instructions among lines
abbrev pub instrs_of : List AsmLine → List AsmInstr
instrs_of [] = []
instrs_of (Label function number ∷ lines) = instrs_of lines
instrs_of (Instr i ∷ lines) = i ∷ instrs_of lines

-- the numbers of the labels among lines
abbrev pub labels_of : List AsmLine → List ℕ
labels_of [] = []
labels_of (Label function number ∷ lines) = number ∷ labels_of lines
labels_of (Instr i ∷ lines) = labels_of lines

-- the instructions of functions, one function after another
abbrev pub code_of : List AsmFunction → List AsmInstr
code_of functions = flat_map (λ function. instrs_of function.lines) functions

-- the number of the function `main`
abbrev pub main_number : List AsmFunction → ℕ
main_number functions = unwrap_or (position (λ function. bytes_eq function.name (codes "main")) functions) 0

-- the whole code: the start of the run, the two routines, and the functions in order
abbrev pub whole_code : AsmUnit → List AsmInstr
whole_code asm = start_code (main_number asm.functions) (buffer_offset asm.items) ++ code_of asm.functions

-- the index of a function's first instruction in the whole code
abbrev pub function_index : List AsmFunction → ℕ → ℕ
function_index functions number = functions_index + length (code_of (take number functions))

-- how many instructions stand before a label
abbrev pub label_index : List AsmLine → ℕ → Option ℕ
label_index [] number = None
label_index (Label function n ∷ lines) number = if n == number then Some 0 else label_index lines number
label_index (Instr i ∷ lines) number = option_map suc (label_index lines number)

-- the index of a place in the code; a place in the data has none, and neither has what is not there
abbrev pub symbol_index : List AsmFunction → Symbol → Option ℕ
symbol_index functions (Block number label) =
    option_and_then (λ function. option_map (λ n. function_index functions number + n) (label_index function.lines label)) (slice_get functions number)
symbol_index functions (Func number) = option_map (λ _. function_index functions number) (slice_get functions number)
symbol_index functions GetChar = Some getchar_index
symbol_index functions PutChar = Some putchar_index
symbol_index functions (Cdata offset) = None
