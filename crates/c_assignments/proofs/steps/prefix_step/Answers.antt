use Rattle.std.proofs.Common.{sym, subst}
use Rattle.c_typing.specs.Expressions.{hidden_for, step_operator}
use Rattle.c_typing.specs.Judgements.{layouts}
use Rattle.c_values.specs.Operators.{Same}
use Rattle.c_type_ids.proofs.TableLaws.{grows_on}
use Rattle.c_answers.specs.Answers.{Answers, Expresses}
use Rattle.c_values.proofs.GrowLaws.{is_grows}
use Rattle.c_assignments.proofs.CompoundLaws.{one, prefix_is}
use Rattle.c_assignments.proofs.steps.prefix_step.Goals as goal

pub compound_by-requires-clause-left : goal.compound_by-requires-clause-left
compound_by-requires-clause-left c = (c.requires.0, is_grows c.args.table.now c.number_of_type.new.table c.in_ok-one.ensures.grows.keeps c.args.value c.requires.0 c.requires.1)

pub compound_by-requires-clause-right : goal.compound_by-requires-clause-right
compound_by-requires-clause-right c = (one, c.in_ok-one.ensures.is)

pub returns-clause-is : goal.returns-clause-is
returns-clause-is c = λ p js n x at says number laid h.
    let grows = c.in_ok-one.ensures.grows in
    subst (λ j. Answers (Expresses c.compound_by.new.table (hidden_for x.form 0)) c.compound_by.result j) (prefix_is p js n x)
    (c.compound_by.ensures.is p js n (step_operator n.label.text) x one at number (grows.laid (layouts js) laid)
    (subst (λ s. Same c.step_operator.result (step_operator s)) (sym says) c.step_operator.ensures)
    (is_grows c.args.table.now c.number_of_type.new.table grows.keeps c.args.value x h) c.in_ok-one.ensures.is)

pub returns-clause-grows : goal.returns-clause-grows
returns-clause-grows c = grows_on c.args.table.now c.number_of_type.new.table c.compound_by.new.table c.in_ok-one.ensures.grows c.compound_by.ensures.grows
