use Rattle.std.proofs.Common.{arith}
use Rattle.c_calls.proofs.ParameterLaws.{as_many, named_at}
use Rattle.c_calls.proofs.arguments.parameter_at.Goals as goal

pub bounds-parameters-place : goal.bounds-parameters-place
bounds-parameters-place c =
    let (r, ts, named, within) = c.requires in
    let many = as_many c.args.table.now c.parameters.result.now ts (c.parameters.ensures r ts named) in
    omega (arith, within, many)

pub offset_bounds-parameters-place : goal.offset_bounds-parameters-place
offset_bounds-parameters-place c =
    let within = bounds-parameters-place c in
    omega (arith, within)

pub returns : goal.returns
returns c = λ r ts t rest named at. named_at c.args.table.now c.parameters.result.now ts c.args.place _ t rest (c.parameters.ensures r ts named) at
