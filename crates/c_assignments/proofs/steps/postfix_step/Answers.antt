use Rattle.std.proofs.Common.{sym, subst}
use Rattle.c_typing.specs.Expressions.{step_operator}
use Rattle.c_typing.specs.Judgements.{layouts}
use Rattle.c_values.specs.Operators.{Same}
use Rattle.c_type_ids.proofs.TableLaws.{grows_on}
use Rattle.c_values.proofs.GrowLaws.{is_grows}
use Rattle.c_assignments.proofs.steps.postfix_step.Goals as goal

pub kept_step-requires-clause-value : goal.kept_step-requires-clause-value
kept_step-requires-clause-value c = (c.requires.value.0, is_grows c.args.table.now c.number_of_type.new.table c.in_ok-one.ensures.grows.keeps c.args.value c.requires.value.0 c.requires.value.1)

pub returns-clause-is : goal.returns-clause-is
returns-clause-is c = λ p js n x at says number laid h.
    let grows = c.in_ok-one.ensures.grows in
    c.kept_step.ensures.is p js n x at (subst (λ s. Same c.step_operator.result (step_operator s)) (sym says) c.step_operator.ensures) number (grows.laid (layouts js) laid)
    (is_grows c.args.table.now c.number_of_type.new.table grows.keeps c.args.value x h)

pub returns-clause-grows : goal.returns-clause-grows
returns-clause-grows c = grows_on c.args.table.now c.number_of_type.new.table c.kept_step.new.table c.in_ok-one.ensures.grows c.kept_step.ensures.grows
