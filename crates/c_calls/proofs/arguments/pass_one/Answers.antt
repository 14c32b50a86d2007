use Rattle.std.proofs.Common.{[], ◌∙◌, ap, not}
use Rattle.c_typing.specs.Conversions.{value_of, converted_code, is_null}
use Rattle.c_typing.specs.Rules.{broken_if}
use Rattle.c_type_ids.proofs.IdLaws.{names_grow}
use Rattle.c_calls.proofs.ParameterLaws.{conversion}
use Rattle.c_calls.proofs.arguments.pass_one.Goals as goal

pub is_assignable-requires-clause-to : goal.is_assignable-requires-clause-to
is_assignable-requires-clause-to c =
    let keeps = c.in_ok-value.ensures.grows.keeps in
    (c.requires.parameter.0, names_grow c.args.table.now c.value_of.new.table keeps.types keeps.structs c.args.parameter c.requires.parameter.0 c.requires.parameter.1)

pub converted-requires : goal.converted-requires
converted-requires c =
    let keeps = c.in_ok-value.ensures.grows.keeps in
    (c.requires.parameter.0, names_grow c.args.table.now c.value_of.new.table keeps.types keeps.structs c.args.parameter c.requires.parameter.0 c.requires.parameter.1)

pub returns-then-not-is_assignable-clause-is : goal.returns-then-not-is_assignable-clause-is
returns-then-not-is_assignable-clause-is c = λ t x named is.
    let keeps = c.in_ok-value.ensures.grows.keeps in
    let value = c.in_ok-value.ensures.is x is in
    let to = names_grow c.args.table.now c.value_of.new.table keeps.types keeps.structs c.args.parameter t named in (
      [],
      conversion t (value_of x) c.args.node c.is_assignable.result c.is_null.result (c.is_assignable.ensures t (value_of x).type to value.type) (c.is_null.ensures ∙ ap is_null value.constant)
          ∙ ap (λ b. broken_if (not b) 14 c.args.node) c.if-not-is_assignable.true,
    )

pub returns-clause-is : goal.returns-clause-is
returns-clause-is c = λ t x named is.
    let keeps = c.in_ok-value.ensures.grows.keeps in
    let value = c.in_ok-value.ensures.is x is in
    let to = names_grow c.args.table.now c.value_of.new.table keeps.types keeps.structs c.args.parameter t named in (
      conversion t (value_of x) c.args.node c.is_assignable.result c.is_null.result (c.is_assignable.ensures t (value_of x).type to value.type) (c.is_null.ensures ∙ ap is_null value.constant)
          ∙ ap (λ b. broken_if (not b) 14 c.args.node) c.if-not-is_assignable.false,
      c.in_ok-converted.ensures (value_of x).type t value.type to ∙ ap (converted_code (value_of x).type t) value.code,
    )
