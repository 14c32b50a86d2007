use Rattle.std.proofs.Common.{◌∙◌, map, sym, subst}
use Rattle.std.specs.Prelude.{Ok}
use Rattle.c_typing.specs.Types.{listed, function}
use Rattle.c_typing.specs.Judgements.{no_constant}
use Rattle.c_typing.specs.Conversions.{value_of, result}
use Rattle.c_typing.specs.Expressions.{expression, arguments, argument_faults, passed, call_code}
use Rattle.c_type_ids.proofs.IdLaws.{names_grow}
use Rattle.c_type_ids.proofs.MeasureLaws.{names_there}
use Rattle.c_values.specs.Typings.{callee_of}
use Rattle.c_places.specs.Places.{IsAnswer}
use Rattle.c_calls.proofs.ParameterLaws.{as_many}
use Rattle.c_calls.proofs.CallLaws.{wrong_count, right_count, refused_call, made_call}
use Rattle.c_calls.proofs.calls.called.Goals as goal

pub returns-then-parameters-nodes-clause-is : goal.returns-then-parameters-nodes-clause-is
returns-then-parameters-nodes-clause-is c = λ js n r ts xs same kids all named are.
    wrong_count c.args.table.now c.args.node js n (callee_of c.args.callee) r ts c.args.nodes.now same kids
    (λ e. c.if-parameters-nodes.true (as_many c.args.table.now c.parameters.result.now ts (c.parameters.ensures r ts named) ∙ e))

pub pass_all-requires-clause-function : goal.pass_all-requires-clause-function
pass_all-requires-clause-function c =
    let (r, ts, named) = c.requires.function in
    (r, ts, named, sym (as_many c.args.table.now c.parameters.result.now ts (c.parameters.ensures r ts named)) ∙ c.if-parameters-nodes.false)

pub returns-in_err-codes-clause-is : goal.returns-in_err-codes-clause-is
returns-in_err-codes-clause-is c = λ js n r ts xs same kids all named are.
    let many = sym (as_many c.args.table.now c.parameters.result.now ts (c.parameters.ensures r ts named)) ∙ c.if-parameters-nodes.false in
    let args = arguments (listed ts) (map value_of xs) c.args.nodes.now in
    subst (IsAnswer c.pass_all.new.table c.from_residual.result) (sym (right_count js n (callee_of c.args.callee) r ts xs c.args.nodes.now kids all many))
    (refused_call c.pass_all.new.table c.from_residual.result c.in_err-codes.field-0.0 (argument_faults args)
    (expression (result r (call_code (callee_of c.args.callee) (map passed args)) no_constant)) c.from_residual.ensures.1 (c.in_err-codes.ensures.is r ts xs named many are))

pub gives_of-requires : goal.gives_of-requires
gives_of-requires c =
    let (r, ts, named) = c.requires.function in
    let keeps = c.in_ok-codes.ensures.grows.keeps in
    (r, ts, names_grow c.args.table.now c.pass_all.new.table keeps.types keeps.structs c.args.id (function r ts) named)

pub result_of-requires : goal.result_of-requires
result_of-requires c =
    let (r, ts, named) = c.requires.function in
    let keeps = c.in_ok-codes.ensures.grows.keeps in
    names_there c.pass_all.new.table c.gives_of.result r (c.gives_of.ensures r ts (names_grow c.args.table.now c.pass_all.new.table keeps.types keeps.structs c.args.id (function r ts) named))

pub returns-clause-is : goal.returns-clause-is
returns-clause-is c = λ js n r ts xs same kids all named are.
    let many = sym (as_many c.args.table.now c.parameters.result.now ts (c.parameters.ensures r ts named)) ∙ c.if-parameters-nodes.false in
    let keeps = c.in_ok-codes.ensures.grows.keeps in
    let still = names_grow c.args.table.now c.pass_all.new.table keeps.types keeps.structs c.args.id (function r ts) named in
    subst (IsAnswer c.pass_all.new.table (Ok c.result_of.result)) (sym (right_count js n (callee_of c.args.callee) r ts xs c.args.nodes.now kids all many))
    (made_call c.pass_all.new.table c.result_of.result (callee_of c.args.callee) r ts xs c.args.nodes.now c.in_ok-codes.codes.items c.in_ok-code.code
    (c.in_ok-codes.ensures.is r ts xs named many are) (c.in_ok-code.ensures {u = tt}) (c.result_of.ensures r (c.gives_of.ensures r ts still)))
