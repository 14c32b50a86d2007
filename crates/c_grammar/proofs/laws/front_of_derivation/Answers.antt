use Rattle.c_grammar.proofs.FrontLaw.{qualifiers_front, literals_front, front_of, fronts_of}
use Rattle.c_grammar.proofs.laws.front_of_derivation.Goals as goal

pub returns-clause-qualifiers : goal.returns-clause-qualifiers
returns-clause-qualifiers c a b = qualifiers_front

pub returns-clause-literals : goal.returns-clause-literals
returns-clause-literals c a b joined = literals_front

pub returns-clause-part : goal.returns-clause-part
returns-clause-part c names part a b t = front_of

pub returns-clause-row : goal.returns-clause-row
returns-clause-row c names row a b ts = fronts_of
