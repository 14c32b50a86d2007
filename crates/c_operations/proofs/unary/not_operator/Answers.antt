use Rattle.std.proofs.Common.{sym, ◌∙◌}
use Rattle.c_operations.proofs.UnaryLaws.{not_allowed, not_refused}
use Rattle.c_operations.proofs.unary.not_operator.Goals as goal

pub returns-in_ok-not_value-clause-is : goal.returns-in_ok-not_value-clause-is
returns-in_ok-not_value-clause-is c = λ n x at is.
    not_allowed c.not_value.new.table c.in_ok-not_value.field-0 n c.args.node x at (sym (c.is_scalar.ensures c.args.table.now x.type (c.kind_of.ensures x.type is.type)) ∙ c.if-is_scalar.true)
    (c.in_ok-not_value.ensures.is x is)

pub returns-else-is_scalar-clause-is : goal.returns-else-is_scalar-clause-is
returns-else-is_scalar-clause-is c = λ n x at is.
    not_refused c.args.table.now n c.args.node x at (sym (c.is_scalar.ensures c.args.table.now x.type (c.kind_of.ensures x.type is.type)) ∙ c.if-is_scalar.false)
