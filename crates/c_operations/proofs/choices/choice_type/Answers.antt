use Rattle.std.proofs.Common.{sym}
use Rattle.c_type_ids.specs.Integers.{integer_of}
use Rattle.c_operations.proofs.ChoiceLaws.{of_integers}
use Rattle.c_operations.proofs.choices.choice_type.Goals as goal

pub returns-in-Some : goal.returns-in-Some
returns-in-Some c = λ ls x y h i. of_integers ls x y (integer_of c.in-Some.integer) (c.in-Some.ensures x.type y.type h.type i.type)

pub returns-in-None : goal.returns-in-None
returns-in-None c = λ ls x y h i. c.other_choice.ensures ls x y h i (sym (c.in-None.ensures x.type y.type h.type i.type))
