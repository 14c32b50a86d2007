use Rattle.firm_rules.proofs.Agreement.{run_runs, runs_are}
use Rattle.firm_rules.proofs.RunLaws.{program_is, program_runs}
use Rattle.firm_rules.proofs.laws.run_agrees.Goals as goal

pub returns-clause-gives : goal.returns-clause-gives
returns-clause-gives c = λ p w turns h b f s r few is. runs_are p w turns few is

pub returns-clause-says : goal.returns-clause-says
returns-clause-says c = λ p w turns h b f s few. run_runs p w turns h b f s few

pub returns-clause-program_gives : goal.returns-clause-program_gives
returns-clause-program_gives c = λ p image layout input depth turns x one. program_is p image layout input depth turns x one

pub returns-clause-program_says : goal.returns-clause-program_says
returns-clause-program_says c = λ p image layout input depth turns. program_runs p image layout input depth turns
