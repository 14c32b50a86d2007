use Rattle.c_declared_types.proofs.LengthLaws.{no_constant}
use Rattle.c_declared_types.proofs.lengths.constant_word.Goals as goal

pub returns-in_default : goal.returns-in_default
returns-in_default c = λ d e. no_constant c.args.constant d c.args.node c.in_default.not-Number c.in_default.not-Undefined e
