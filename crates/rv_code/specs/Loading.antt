-- A unit in memory: labels, `%hi` and `%lo` are numbers here.
use Rattle.std.specs.Prelude.{ℕ, ◌+◌, ◌*◌, ◌%◌, ◌^◌, List, [], ◌∷◌, length, Option, Some, None, replicate}
use Rattle.std.specs.List.{flat_map}
use Rattle.std.specs.Int.{w32, to_le_bytes}
use Rattle.cp_base.specs.declared.layout.Layout.{Layout}
use Rattle.cp_base.specs.Words.{word_of, sum, difference, high_part, low_part}
use Rattle.cp_base.specs.Regions.{Holds}
use Rattle.rv_code.specs.declared.assembly.RvName.{RvName}
use Rattle.rv_code.specs.declared.assembly.Symbol.{Symbol}
use Rattle.rv_code.specs.declared.assembly.Symbol.TheVariants.{Block, Func, GetChar, PutChar, Cdata}
use Rattle.rv_code.specs.declared.assembly.Operand.{Operand}
use Rattle.rv_code.specs.declared.assembly.Operand.TheVariants.{Number, High, Low, To}
use Rattle.rv_code.specs.declared.assembly.AsmInstr.{AsmInstr}
use Rattle.rv_code.specs.declared.assembly.AsmFunction.{AsmFunction}
use Rattle.rv_code.specs.declared.assembly.AsmUnit.{AsmUnit}
use Rattle.rv_code.specs.declared.assembly.DataItem.{DataItem}
use Rattle.rv_code.specs.declared.assembly.DataItem.TheVariants.{Zero, Byte, Address}
use Rattle.rv_code.specs.Sizes.{data_size}
use Rattle.rv_code.specs.Places.{whole_code, symbol_index}

-- the i-th instruction, counted from 0, has the address `code + 4i`, modulo 2 ^ 32
abbrev pub address_of : Layout → ℕ → ℕ
address_of layout index = (layout.code + 4 * index) % 2 ^ 32

-- an index of the code as an address; in a well-formed unit each place in the code has an index
abbrev pub place_address : Layout → Option ℕ → ℕ
place_address layout None = 0
place_address layout (Some index) = address_of layout index

abbrev pub symbol_address : List AsmFunction → Layout → Symbol → ℕ
symbol_address functions layout (Cdata offset) = sum layout.cdata offset
symbol_address functions layout (Block number label) = place_address layout (symbol_index functions (Block number label))
symbol_address functions layout (Func number) = place_address layout (symbol_index functions (Func number))
symbol_address functions layout GetChar = place_address layout (symbol_index functions GetChar)
symbol_address functions layout PutChar = place_address layout (symbol_index functions PutChar)

-- an instruction in memory; its value is the immediate, extended by its sign, as a word: of `lui` the
-- upper 20 bits, of a jump or a branch the distance to the target
pub record LoadedInstr : Type 0 where
  pub name : RvName
  pub rd : ℕ
  pub rs1 : ℕ
  pub rs2 : ℕ
  pub value : ℕ

-- the value of an operand, in an instruction at the address `here`
abbrev pub operand_value : List AsmFunction → Layout → ℕ → Operand → ℕ
operand_value functions layout here (Number value) = word_of value
operand_value functions layout here (High symbol) = high_part (symbol_address functions layout symbol)
operand_value functions layout here (Low symbol) = low_part (symbol_address functions layout symbol)
operand_value functions layout here (To symbol) = difference (symbol_address functions layout symbol) here

abbrev pub loaded_instr : List AsmFunction → Layout → ℕ → AsmInstr → LoadedInstr
loaded_instr functions layout index i = record {
  name = i.name;
  rd = i.rd;
  rs1 = i.rs1;
  rs2 = i.rs2;
  value = operand_value functions layout (address_of layout index) i.operand;
}

-- instructions, of which the first has this index
abbrev pub loaded_from : List AsmFunction → Layout → ℕ → List AsmInstr → List LoadedInstr
loaded_from functions layout index [] = []
loaded_from functions layout index (i ∷ is) = loaded_instr functions layout index i ∷ loaded_from functions layout (index + 1) is

-- the code in memory
abbrev pub loaded_code : AsmUnit → Layout → List LoadedInstr
loaded_code asm layout = loaded_from asm.functions layout 0 (whole_code asm)

-- the bytes of an item
abbrev pub item_bytes : ℕ → DataItem → List ℕ
item_bytes cdata (Zero count) = replicate count 0
item_bytes cdata (Byte value) = value ∷ []
item_bytes cdata (Address offset) = to_le_bytes w32 (sum cdata offset)

-- the data in memory; its last byte is the buffer byte
abbrev pub loaded_data : AsmUnit → Layout → List ℕ
loaded_data asm layout = flat_map (item_bytes layout.cdata) asm.items

-- the length of the code in bytes
abbrev pub code_size : AsmUnit → ℕ
code_size asm = 4 * length (whole_code asm)

-- the layout holds the unit
abbrev pub HoldsUnit : Layout → AsmUnit → Type 0
HoldsUnit layout asm = Holds layout (code_size asm) (data_size asm.items)
