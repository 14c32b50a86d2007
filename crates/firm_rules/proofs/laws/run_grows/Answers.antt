use Rattle.firm_rules.proofs.Agreement.{falls}
use Rattle.firm_rules.proofs.Growth.{run_grows}
use Rattle.firm_rules.proofs.laws.run_grows.Goals as goal

pub returns-clause-output : goal.returns-clause-output
returns-clause-output c = λ p w g b nodes f s r run. (run_grows p w run).longer

pub returns-clause-turns : goal.returns-clause-turns
returns-clause-turns c = λ p w g b nodes f s r run. falls p w run

pub returns-clause-cut_off : goal.returns-clause-cut_off
returns-clause-cut_off c = λ p w g b nodes f s t run. (run_grows p w run).cut_off
