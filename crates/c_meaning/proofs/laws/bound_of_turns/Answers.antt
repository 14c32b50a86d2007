use Rattle.c_meaning.proofs.RunLaws.{statement_bound, expression_bound}
use Rattle.c_meaning.proofs.laws.bound_of_turns.Goals as goal

pub returns-clause-statement : goal.returns-clause-statement
returns-clause-statement c u w turns others st s few few_too = statement_bound u w turns others st s few few_too

pub returns-clause-expression : goal.returns-clause-expression
returns-clause-expression c u w turns others e s few few_too = expression_bound u w turns others e s few few_too
