use Rattle.c_typing.specs.Judgements.{layouts}
use Rattle.c_operations.proofs.UnaryLaws.{measured, no_size}
use Rattle.c_operations.proofs.unary.measured_type.Goals as goal

pub returns-in_ok-number_of_type-in-Some-clause-is : goal.returns-in_ok-number_of_type-in-Some-clause-is
returns-in_ok-number_of_type-in-Some-clause-is c = λ js t laid h.
    measured c.number_of_type.new.table c.in_ok-number_of_type-in-Some.field-0 js t c.args.operand c.in-Some.size (c.in-Some.ensures t (layouts js) h laid) c.in_ok-number_of_type-in-Some.ensures.is

pub returns-in-None-clause-is : goal.returns-in-None-clause-is
returns-in-None-clause-is c = λ js t laid h. no_size c.args.table.now js t c.args.operand (c.in-None.ensures t (layouts js) h laid)
