use Rattle.std.proofs.Common.{arith}
use Rattle.std.proofs.lemmas.List.{drop_all}
use Rattle.c_declared_types.proofs.ParameterLaws.{too_many, at_first, next, found_bad, none_bad}
use Rattle.c_declared_types.proofs.parameters.check_parameters.Goals as goal

pub returns-then-takes-gt-MAX_PARAMETERS : goal.returns-then-takes-gt-MAX_PARAMETERS
returns-then-takes-gt-MAX_PARAMETERS c = λ ts named. too_many c.args.table.now c.args.takes.now c.args.node c.if-takes-gt-MAX_PARAMETERS.true ts named

pub loop-id-init : goal.loop-id-init
loop-id-init c = at_first c.args.table.now c.args.takes.now

-- the parameter that the loop is at
pub returns-then-is_struct_or_function : goal.returns-then-is_struct_or_function
returns-then-is_struct_or_function c =
    found_bad c.args.table.now c.args.takes.now c.loop-id.id-index (record { number = 0 }) (omega (arith, c.loop-id-test.true, c.loop-id.auto.id-index-end))
    c.is_struct_or_function.result c.is_struct_or_function.ensures c.if-is_struct_or_function.true c.if-takes-gt-MAX_PARAMETERS.false c.loop-id.invariant c.args.node

pub loop-id-preserved : goal.loop-id-preserved
loop-id-preserved c =
    next c.args.table.now c.args.takes.now c.loop-id.id-index (record { number = 0 }) (omega (arith, c.loop-id-test.true, c.loop-id.auto.id-index-end))
    c.is_struct_or_function.result c.is_struct_or_function.ensures c.if-is_struct_or_function.false c.loop-id.invariant

pub returns : goal.returns
returns c = λ ts named. (
  none_bad c.args.table.now c.args.takes.now c.loop-id.id-index c.args.node c.if-takes-gt-MAX_PARAMETERS.false
      (drop_all c.loop-id.id-index c.args.takes.now (omega (arith, c.loop-id-test.false, c.loop-id.auto.id-index-end))) c.loop-id.invariant ts named,
  tt,
)
