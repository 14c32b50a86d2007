use Rattle.std.proofs.Common.{subst}
use Rattle.c_typing.specs.Types.{CType}
use Rattle.c_typing.specs.Conversions.{shift_type}
use Rattle.c_type_ids.specs.Ids.{Shows}
use Rattle.c_values.specs.Operators.{ResultIs}
use Rattle.c_values.proofs.ReadLaws.{integer_is}
use Rattle.c_values.proofs.operators.shift_type_by.Goals as goal

pub returns-in-Integer : goal.returns-in-Integer
returns-in-Integer c = λ k t u h i ls.
    subst (λ (v : CType). ResultIs c.shifted_by.result (shift_type ls v u) v u)
    (integer_is k c.in-Integer.left t (subst (λ K. Shows k K t) c.in-Integer.is h))
    (c.shifted_by.ensures k u i ls)
