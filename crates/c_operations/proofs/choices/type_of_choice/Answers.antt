use Rattle.c_typing.specs.Conversions.{choice_type}
use Rattle.c_operations.proofs.choices.type_of_choice.Goals as goal

pub returns-clause-is : goal.returns-clause-is
returns-clause-is c = λ ls x y h i. c.type_of_result.ensures.is x.type y.type (choice_type ls x y) h.type i.type (c.choice_type-found.ensures ls x y h i)
