-- The mnemonic and the form of each instruction.
use Rattle.std.specs.Prelude.{ℕ, List, codes}
use Rattle.rv_code.specs.declared.form.Form.{Form}
use Rattle.rv_code.specs.declared.form.Form.TheVariants.{Upper, Jump, Indirect, Store, Branch, Immediate, Shift, Registers, Environment}
use Rattle.rv_code.specs.declared.assembly.RvName.{RvName}
use Rattle.rv_code.specs.declared.assembly.RvName.TheVariants.{Lui, Jal, Jalr, Beq, Bne, Blt, Bge, Bltu, Bgeu, Lb, Lh, Lw, Lbu, Lhu, Sb, Sh, Sw, Addi, Slti, Sltiu, Xori, Ori, Andi, Slli, Srli, Srai, Add, Sub, Sll, Slt, Sltu, Xor, Srl, Sra, Or, And, Ecall, Mul, Div, Divu, Rem, Remu}

-- Volume I, 2.4 to 2.6, 2.8, 7.1 and 7.2
abbrev pub row_of : RvName → List ℕ × Form
row_of Lui = (codes "lui", Upper)
row_of Jal = (codes "jal", Jump)
row_of Jalr = (codes "jalr", Indirect)
row_of Beq = (codes "beq", Branch)
row_of Bne = (codes "bne", Branch)
row_of Blt = (codes "blt", Branch)
row_of Bge = (codes "bge", Branch)
row_of Bltu = (codes "bltu", Branch)
row_of Bgeu = (codes "bgeu", Branch)
row_of Lb = (codes "lb", Indirect)
row_of Lh = (codes "lh", Indirect)
row_of Lw = (codes "lw", Indirect)
row_of Lbu = (codes "lbu", Indirect)
row_of Lhu = (codes "lhu", Indirect)
row_of Sb = (codes "sb", Store)
row_of Sh = (codes "sh", Store)
row_of Sw = (codes "sw", Store)
row_of Addi = (codes "addi", Immediate)
row_of Slti = (codes "slti", Immediate)
row_of Sltiu = (codes "sltiu", Immediate)
row_of Xori = (codes "xori", Immediate)
row_of Ori = (codes "ori", Immediate)
row_of Andi = (codes "andi", Immediate)
row_of Slli = (codes "slli", Shift)
row_of Srli = (codes "srli", Shift)
row_of Srai = (codes "srai", Shift)
row_of Add = (codes "add", Registers)
row_of Sub = (codes "sub", Registers)
row_of Sll = (codes "sll", Registers)
row_of Slt = (codes "slt", Registers)
row_of Sltu = (codes "sltu", Registers)
row_of Xor = (codes "xor", Registers)
row_of Srl = (codes "srl", Registers)
row_of Sra = (codes "sra", Registers)
row_of Or = (codes "or", Registers)
row_of And = (codes "and", Registers)
row_of Ecall = (codes "ecall", Environment)
row_of Mul = (codes "mul", Registers)
row_of Div = (codes "div", Registers)
row_of Divu = (codes "divu", Registers)
row_of Rem = (codes "rem", Registers)
row_of Remu = (codes "remu", Registers)

abbrev pub name_text : RvName → List ℕ
name_text name = (row_of name).0

abbrev pub form_of : RvName → Form
form_of name = (row_of name).1
