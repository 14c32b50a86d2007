use Rattle.std.proofs.Common.{subst, sym}
use Rattle.c_values.specs.Operators.{IsOperand}
use Rattle.c_declarator_rows.proofs.arrays.counted.Goals as goal

pub length_of-requires : goal.length_of-requires
length_of-requires c = (c.requires.0, subst (λ o. IsOperand c.args.table.now o c.requires.0) (sym c.operand_of.ensures) (record { type = c.requires.1.type; constant = c.requires.1.constant }))
