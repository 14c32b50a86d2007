use Rattle.std.proofs.Common.{subst}
use Rattle.c_declared_types.specs.Steps.{IsStep}
use Rattle.c_declared_types.proofs.BuildLaws.{by_parameter, by_function, takes_some}
use Rattle.c_declared_types.proofs.built.stepped.Goals as goal

pub function_to-requires-clause-takes : goal.function_to-requires-clause-takes
function_to-requires-clause-takes c =
    takes_some c.args.table.now c.in-OfFunction.takes c.requires.step.0 (subst (λ s. IsStep c.args.table.now s c.requires.step.0) c.in-OfFunction.is c.requires.step.1)

pub returns-in-OfParameter-clause-is : goal.returns-in-OfParameter-clause-is
returns-in-OfParameter-clause-is c = λ ls t s laid named h.
    by_parameter c.args.table.now c.parameter_of.new.table ls c.args.id c.args.placed.node t c.parameter_of.result s
    (subst (λ x. IsStep c.args.table.now x s) c.in-OfParameter.is h) (c.parameter_of.ensures.is ls t laid named)

pub returns-in-OfFunction-clause-is : goal.returns-in-OfFunction-clause-is
returns-in-OfFunction-clause-is c = λ ls t s laid named h.
    by_function c.args.table.now c.function_to.new.table ls c.args.id c.args.placed.node t c.function_to.result c.in-OfFunction.takes s
    (subst (λ x. IsStep c.args.table.now x s) c.in-OfFunction.is h) (λ ts all. c.function_to.ensures.is t ts named all)
