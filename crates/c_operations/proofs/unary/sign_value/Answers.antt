use Rattle.std.proofs.Common.{refl, subst}
use Rattle.c_type_ids.specs.Integers.{integer_of}
use Rattle.c_typing.specs.Types.{integer}
use Rattle.c_values.specs.Typings.{Is}
use Rattle.c_operations.proofs.OperandLaws.{mapped}
use Rattle.c_operations.proofs.UnaryLaws.{minus, minus_is, complement_is}
use Rattle.c_operations.proofs.unary.sign_value.Goals as goal

pub returns-in-text-clause-is : goal.returns-in-text-clause-is
returns-in-text-clause-is c =
    mapped _ _ c.negated.result c.negated.ensures λ v is x h.
    subst (Is c.integer.new.self v) (minus_is c.args.node (integer_of c.args.integer) c.args.text.now x c.in-text.is)
    (is c.args.table.now c.integer.new.self minus x refl refl c.in_ok-integer.ensures.ok h)

pub returns-in-text-2-clause-is : goal.returns-in-text-2-clause-is
returns-in-text-2-clause-is c =
    mapped _ _ c.complement.result c.complement.ensures λ v is x h.
    subst (Is c.integer.new.self v) (complement_is c.args.node (integer_of c.args.integer) c.args.text.now x c.in-text-2.is)
    (is c.args.table.now c.integer.new.self (integer (integer_of c.args.integer)) x c.in_ok-integer.ensures.ok h)
