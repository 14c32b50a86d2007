use Rattle.std.proofs.Common.{sym, ◌∙◌}
use Rattle.c_operations.proofs.CastLaws.{cast_allowed, cast_refused}
use Rattle.c_operations.proofs.casts.cast.Goals as goal

pub returns-in_ok-cast_value : goal.returns-in_ok-cast_value
returns-in_ok-cast_value c = λ n t x at to is.
    cast_allowed c.args.table.now c.in_ok-cast_value.field-0 n t x (sym (c.is_castable.ensures c.args.table.now t x.type (c.kind_of.ensures t to) (c.kind_of-2.ensures x.type is.type)) ∙ c.if-is_castable.true)
    (c.in_ok-cast_value.ensures t x to is)

pub returns-else-is_castable : goal.returns-else-is_castable
returns-else-is_castable c = λ n t x at to is.
    cast_refused c.args.table.now n c.args.node t x at (sym (c.is_castable.ensures c.args.table.now t x.type (c.kind_of.ensures t to) (c.kind_of-2.ensures x.type is.type)) ∙ c.if-is_castable.false)
