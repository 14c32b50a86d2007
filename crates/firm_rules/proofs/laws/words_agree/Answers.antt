use Rattle.firm_rules.proofs.Points.{words_agree, runs_from}
use Rattle.firm_rules.proofs.Edges.{is_walk}
use Rattle.firm_rules.proofs.laws.words_agree.Goals as goal

pub returns-clause-words : goal.returns-clause-words
returns-clause-words c = λ p w g arguments start walk nodes f h s v comes. words_agree p w g arguments start comes v

pub returns-clause-walk : goal.returns-clause-walk
returns-clause-walk c = λ p w g arguments start walk nodes f h s obeys comes. is_walk p w g obeys arguments start comes

pub returns-clause-runs : goal.returns-clause-runs
returns-clause-runs c = λ p w g arguments start walk nodes f h s r comes run. runs_from p w g arguments start comes run
