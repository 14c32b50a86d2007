use Rattle.std.proofs.Common.{◌∙◌, sym, ap}
use Rattle.c_typing.specs.Conversions as conversions
use Rattle.c_type_ids.proofs.MeasureLaws.{names_there}
use Rattle.c_initializers.proofs.ScalarLaws.{not_assignable_first}
use Rattle.c_initializers.proofs.scalars.check_scalar.Goals as goal

pub kind-requires : goal.kind-requires
kind-requires c = names_there c.args.table.now c.args.scalar c.requires.scalar.0 c.requires.scalar.1

pub returns-then-not-is_assignable-clause-is : goal.returns-then-not-is_assignable-clause-is
returns-then-not-is_assignable-clause-is c = λ t x names is.
    let null = c.is_null-is_null.ensures ∙ ap conversions.is_null is.constant in
    let answer = sym (c.is_assignable.ensures t x.type names is.type) ∙ c.if-not-is_assignable.true in
    not_assignable_first t x c.args.node _ (ap (λ b. conversions.is_assignable_by t x.type b) (sym null) ∙ answer)
