use Rattle.std.proofs.Common.{subst}
use Rattle.c_typing.specs.Types.{CType}
use Rattle.c_typing.specs.Conversions.{difference_type}
use Rattle.c_type_ids.specs.Ids.{Shows}
use Rattle.c_values.specs.Operators.{ResultIs}
use Rattle.c_values.proofs.ReadLaws.{integer_is}
use Rattle.c_values.proofs.operators.difference_type_by.Goals as goal

pub returns-in-Integer : goal.returns-in-Integer
returns-in-Integer c = λ t u h i ls laid.
    subst (λ (v : CType). ResultIs c.difference_with.result (difference_type ls v u) v u)
    (integer_is c.args.table.now c.in-Integer.left t (subst (λ K. Shows c.args.table.now K t) c.in-Integer.is h))
    (c.difference_with.ensures c.args.table.now u i ls)
