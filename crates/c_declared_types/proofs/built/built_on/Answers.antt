use Rattle.std.proofs.Common.{arith}
use Rattle.c_typing.specs.Declarators.{build}
use Rattle.c_type_ids.specs.Ids.{Names}
use Rattle.c_answers.proofs.AnswerLaws.{handed_on}
use Rattle.c_type_ids.proofs.TableLaws.{grows_on}
use Rattle.c_declared_types.proofs.BuildLaws.{next_some, after, refused, at_last, empty}
use Rattle.c_declared_types.proofs.built.built_on.Goals as goal

pub stepped-requires-clause-step : goal.stepped-requires-clause-step
stepped-requires-clause-step c =
    next_some c.args.table.now c.loop-placed.table c.args.base c.loop-placed.id c.args.steps.items c.loop-placed.steps.items c.pop.new.self.items c.in-Some.placed c.loop-placed.invariant c.in-Some.ensures.items

pub returns-in_err-id-clause-is : goal.returns-in_err-id-clause-is
returns-in_err-id-clause-is c = λ ls t ss laid named placed.
    handed_on (λ id. Names c.stepped.new.table id (build ls t ss).type) c.from_residual.result (build ls t ss).faults c.in_err-id.field-0.0 c.from_residual.ensures.1
    (refused c.args.table.now c.loop-placed.table c.stepped.new.table c.args.base c.loop-placed.id c.args.steps.items c.loop-placed.steps.items c.pop.new.self.items c.in-Some.placed c.loop-placed.invariant c.in-Some.ensures.items
    c.in_err-id.field-0.0 c.in_err-id.ensures.is ls t ss laid named placed)

pub returns-in_err-id-clause-grows : goal.returns-in_err-id-clause-grows
returns-in_err-id-clause-grows c = grows_on c.args.table.now c.loop-placed.table c.stepped.new.table c.loop-placed.invariant.grows c.in_err-id.ensures.grows

pub loop-placed-preserved : goal.loop-placed-preserved
loop-placed-preserved c =
    after c.args.table.now c.loop-placed.table c.stepped.new.table c.args.base c.loop-placed.id c.args.steps.items c.loop-placed.steps.items c.pop.new.self.items c.in-Some.placed c.loop-placed.invariant c.in-Some.ensures.items
    c.in_ok-id.id c.in_ok-id.ensures.grows c.in_ok-id.ensures.there c.in_ok-id.ensures.is

pub returns-clause-is : goal.returns-clause-is
returns-clause-is c =
    at_last c.args.table.now c.loop-placed.table c.args.base c.loop-placed.id c.args.steps.items c.loop-placed.steps.items c.loop-placed.invariant
    (empty c.loop-placed.steps.items (omega (arith, c.in_default.ensures.cases.0, c.loop-placed.steps.ok.0)))
