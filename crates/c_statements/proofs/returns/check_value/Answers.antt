use Rattle.std.proofs.Common.{◌∙◌, ap, sym}
use Rattle.c_typing.specs.Conversions as conversions
use Rattle.c_type_ids.proofs.MeasureLaws.{names_there}
use Rattle.c_statements.proofs.ReturnLaws.{void_refuses, conversion_refuses, conversion_allows}
use Rattle.c_statements.proofs.returns.check_value.Goals as goal

pub is_void-requires : goal.is_void-requires
is_void-requires c = names_there c.args.table.now c.args.gives c.requires.gives.0 c.requires.gives.1

pub is_assignable-requires-clause-from : goal.is_assignable-requires-clause-from
is_assignable-requires-clause-from c = (c.requires.value.0.type, c.requires.value.1.type)

pub returns-then-is_void : goal.returns-then-is_void
returns-then-is_void c = λ t x n names is own value. void_refuses t x n c.args.node (sym (c.is_void.ensures t names) ∙ c.if-is_void.true) own

pub returns-then-not-is_assignable : goal.returns-then-not-is_assignable
returns-then-not-is_assignable c = λ t x n names is own value.
    let null = c.is_null.ensures ∙ ap conversions.is_null is.constant in
    let answer = sym (c.is_assignable.ensures t x.type names is.type) ∙ c.if-not-is_assignable.true in
    conversion_refuses t x n c.args.value_node (sym (c.is_void.ensures t names) ∙ c.if-is_void.false) (ap (λ b. conversions.is_assignable_by t x.type b) (sym null) ∙ answer) value

pub returns : goal.returns
returns c = λ t x n names is own value.
    let null = c.is_null.ensures ∙ ap conversions.is_null is.constant in
    let answer = sym (c.is_assignable.ensures t x.type names is.type) ∙ c.if-not-is_assignable.false in
    (conversion_allows t x n (sym (c.is_void.ensures t names) ∙ c.if-is_void.false) (ap (λ b. conversions.is_assignable_by t x.type b) (sym null) ∙ answer), tt)
