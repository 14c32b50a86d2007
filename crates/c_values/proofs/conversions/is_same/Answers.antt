use Rattle.std.proofs.Common.{sym, subst}
use Rattle.c_values.specs.Typings.{IsType}
use Rattle.c_values.proofs.ReadLaws.{known_other}
use Rattle.c_values.proofs.conversions.is_same.Goals as goal

pub returns-in_default : goal.returns-in_default
returns-in_default c = λ t u h i.
    sym (known_other c.args.table.now c.in_default.field-0-0 c.args.right t u c.in_default.not-Known-1 (subst (λ s. IsType c.args.table.now s t) c.in_default.is-0 h) i)
