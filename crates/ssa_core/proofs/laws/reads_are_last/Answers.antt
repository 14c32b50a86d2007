use Rattle.std.proofs.Common.{refl}
use Rattle.ssa_core.proofs.Meaning.{read_means, operand_means, operand_given}
use Rattle.ssa_core.proofs.laws.reads_are_last.Goals as goal

pub returns-clause-reads : goal.returns-clause-reads
returns-clause-reads g c = λ modes k s settled sound index r at phis. read_means modes k s settled sound r.var phis r index at refl

pub returns-clause-operands : goal.returns-clause-operands
returns-clause-operands g c = λ modes k s settled sound index home p operands at kind phis place pred operand to is.
    operand_means modes k s settled sound home.var phis pred operand (operand_given modes k s settled index home p operands at kind place pred operand to is)
