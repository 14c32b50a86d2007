use Rattle.firm_rules.proofs.Words.{any_bound, word_is}
use Rattle.firm_rules.proofs.laws.words_are_of_operations.Goals as goal

pub returns-clause-word : goal.returns-clause-word
returns-clause-word c = λ base g b f n node obeys is at. word_is g base b f (λ m x there. (obeys.nodes m x there).no_cycle) n node is at

pub returns-clause-bound : goal.returns-clause-bound
returns-clause-bound c = λ base g b f more n obeys. any_bound g base b f (λ m x there. (obeys.nodes m x there).no_cycle) more n
