use Rattle.std.proofs.Common.{◌≡◌, length, map, arith}
use Rattle.c_typing.specs.Expressions.{argument_faults, passed}
use Rattle.c_type_ids.proofs.TableLaws.{grows_on}
use Rattle.c_answers.proofs.AnswerLaws.{handed_on}
use Rattle.c_calls.proofs.PassLaws.{still_named, place_within, argument_there, parameter_there, refused, preserved, all_passed, empty, whole}
use Rattle.c_calls.proofs.arguments.pass_all.Goals as goal

pub parameter_at-parameter-requires : goal.parameter_at-parameter-requires
parameter_at-parameter-requires c =
    let (r, ts, named, many) = c.requires.function in
    let here : c.len-place.result ≡ length c.loop-argument.codes.items = omega (arith, c.len-place.ensures, c.loop-argument.codes.ok.0) in
    let left = c.loop-argument.arguments.items in
    let rest = c.pop.new.self.items in
    let codes = c.loop-argument.codes.items in (
      r,
      ts,
      still_named c.args.table.now c.loop-argument.table c.args.id c.args.arguments.items left rest c.args.nodes.now codes c.in-Some.argument c.len-place.result c.loop-argument.invariant c.in-Some.ensures.items here r ts named,
      place_within c.args.table.now c.loop-argument.table c.args.id c.args.arguments.items left rest c.args.nodes.now codes c.in-Some.argument c.len-place.result c.loop-argument.invariant c.in-Some.ensures.items here ts many,
    )

pub pass_one-requires-clause-parameter : goal.pass_one-requires-clause-parameter
pass_one-requires-clause-parameter c =
    let (r, ts, named, many) = c.requires.function in
    let here : c.len-place.result ≡ length c.loop-argument.codes.items = omega (arith, c.len-place.ensures, c.loop-argument.codes.ok.0) in
    parameter_there c.args.table.now c.loop-argument.table c.args.id c.args.arguments.items c.loop-argument.arguments.items c.pop.new.self.items c.args.nodes.now c.loop-argument.codes.items
    c.in-Some.argument c.len-place.result c.loop-argument.invariant c.in-Some.ensures.items here c.parameter_at-parameter.result c.parameter_at-parameter.ensures
    r ts c.requires.arguments.0 named many c.requires.arguments.1

pub pass_one-requires-clause-argument : goal.pass_one-requires-clause-argument
pass_one-requires-clause-argument c =
    let (r, ts, named, many) = c.requires.function in
    let here : c.len-place.result ≡ length c.loop-argument.codes.items = omega (arith, c.len-place.ensures, c.loop-argument.codes.ok.0) in
    argument_there c.args.table.now c.loop-argument.table c.args.id c.args.arguments.items c.loop-argument.arguments.items c.pop.new.self.items c.args.nodes.now c.loop-argument.codes.items
    c.in-Some.argument c.len-place.result c.loop-argument.invariant c.in-Some.ensures.items here r ts c.requires.arguments.0 named many c.requires.arguments.1

pub returns-in_err-code-clause-is : goal.returns-in_err-code-clause-is
returns-in_err-code-clause-is c = λ r ts xs named many are.
    let here : c.len-place.result ≡ length c.loop-argument.codes.items = omega (arith, c.len-place.ensures, c.loop-argument.codes.ok.0) in
    handed_on (λ codes. codes.items ≡ map passed (whole ts xs c.args.nodes.now)) c.from_residual.result (argument_faults (whole ts xs c.args.nodes.now)) c.in_err-code.field-0.0 c.from_residual.ensures.1
    (refused c.args.table.now c.loop-argument.table c.args.id c.args.arguments.items c.loop-argument.arguments.items c.pop.new.self.items c.args.nodes.now c.loop-argument.codes.items
    c.in-Some.argument c.len-place.result c.loop-argument.invariant c.in-Some.ensures.items here c.parameter_at-parameter.result c.parameter_at-parameter.ensures
    c.in_err-code.field-0.0 c.in_err-code.ensures.is r ts xs named many are)

pub returns-in_err-code-clause-grows : goal.returns-in_err-code-clause-grows
returns-in_err-code-clause-grows c = grows_on c.args.table.now c.loop-argument.table c.pass_one.new.table c.loop-argument.invariant.grows c.in_err-code.ensures.grows

pub returns-in_err-add-clause-grows : goal.returns-in_err-add-clause-grows
returns-in_err-add-clause-grows c = grows_on c.args.table.now c.loop-argument.table c.pass_one.new.table c.loop-argument.invariant.grows c.in_ok-code.ensures.grows

pub loop-argument-preserved : goal.loop-argument-preserved
loop-argument-preserved c =
    let here : c.len-place.result ≡ length c.loop-argument.codes.items = omega (arith, c.len-place.ensures, c.loop-argument.codes.ok.0) in
    preserved c.args.table.now c.loop-argument.table c.args.id c.args.arguments.items c.loop-argument.arguments.items c.pop.new.self.items c.args.nodes.now c.loop-argument.codes.items
    c.in-Some.argument c.len-place.result c.loop-argument.invariant c.in-Some.ensures.items here c.parameter_at-parameter.result c.parameter_at-parameter.ensures
    c.pass_one.new.table c.in_ok-code.code c.add.new.codes.items c.in_ok-code.ensures.grows (c.in_ok-add.ensures {u = tt}) c.in_ok-code.ensures.is

pub returns-clause-is : goal.returns-clause-is
returns-clause-is c = λ r ts xs named many are.
    all_passed c.loop-argument.table ts xs c.args.nodes.now c.loop-argument.arguments.items c.loop-argument.codes.items
    (empty c.loop-argument.arguments.items (omega (arith, c.in_default.ensures.cases.0, c.loop-argument.arguments.ok.0))) (c.loop-argument.invariant.is r ts xs named many are)
