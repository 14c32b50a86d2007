use Rattle.c_meaning.proofs.RunLaws.{statement_grows, expression_grows}
use Rattle.c_meaning.proofs.laws.output_grows.Goals as goal

pub returns-clause-statement : goal.returns-clause-statement
returns-clause-statement c u w turns st s = statement_grows u w turns st s

pub returns-clause-expression : goal.returns-clause-expression
returns-clause-expression c u w turns e s = expression_grows u w turns e s
