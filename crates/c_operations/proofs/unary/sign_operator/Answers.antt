use Rattle.c_type_ids.specs.Integers.{integer_of}
use Rattle.c_operations.proofs.UnaryLaws.{sign_allowed, sign_refused}
use Rattle.c_operations.proofs.unary.sign_operator.Goals as goal

pub returns-in_ok-sign_value-in-Some-clause-is : goal.returns-in_ok-sign_value-in-Some-clause-is
returns-in_ok-sign_value-in-Some-clause-is c = λ n x at text is.
    sign_allowed c.sign_value.new.table c.in_ok-sign_value-in-Some.field-0 n c.args.node c.args.text.now x (integer_of c.promoted.result) (integer_of c.in-Some.integer) at text
    (c.in-Some.ensures x.type is.type) c.promoted.ensures (c.in_ok-sign_value-in-Some.ensures.is x is)

pub returns-in-None-clause-is : goal.returns-in-None-clause-is
returns-in-None-clause-is c = λ n x at text is. sign_refused c.args.table.now n c.args.node x at (c.in-None.ensures x.type is.type)
