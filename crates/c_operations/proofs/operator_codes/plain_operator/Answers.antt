use Rattle.std.proofs.Common.{◌∙◌}
use Rattle.c_type_ids.specs.Integers.{integer_of}
use Rattle.c_operations.proofs.CodeLaws.{of_integers, of_others}
use Rattle.c_operations.proofs.operator_codes.plain_operator.Goals as goal

pub returns-in-Some : goal.returns-in-Some
returns-in-Some c = λ o t u same h i.
    c.signs.ensures o same.signed same.unsigned ∙ of_integers o t u (integer_of c.in-Some.integer) (c.in-Some.ensures t u h i)

pub returns-in-None : goal.returns-in-None
returns-in-None c = λ o t u same h i. same.unsigned ∙ of_others o t u (c.in-None.ensures t u h i)
