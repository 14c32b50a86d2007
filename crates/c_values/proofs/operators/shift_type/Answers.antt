use Rattle.std.proofs.Common.{subst}
use Rattle.c_values.specs.Typings.{ShownAs}
use Rattle.c_values.proofs.operators.shift_type.Goals as goal

pub returns-in-Kind : goal.returns-in-Kind
returns-in-Kind c = λ k t u h i ls. c.shift_type_by.ensures k t u (subst (λ s. ShownAs k s t) c.in-Kind.is h) i ls
