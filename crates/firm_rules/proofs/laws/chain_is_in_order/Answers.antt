use Rattle.firm_rules.proofs.Order.{chain_acts_at, chain_takes_at, chain_once}
use Rattle.firm_rules.proofs.laws.chain_is_in_order.Goals as goal

pub returns-clause-acts : goal.returns-clause-acts
returns-clause-acts c = λ g b index n e. chain_acts_at g b index n e

pub returns-clause-takes : goal.returns-clause-takes
returns-clause-takes c = λ g b index n m node one next is. chain_takes_at g b index n m node one next is

pub returns-clause-whole : goal.returns-clause-whole
returns-clause-whole c = λ g b n obeys block acts. (obeys.blocks b block).memory_fits.one_chain n acts

pub returns-clause-once : goal.returns-clause-once
returns-clause-once c = λ g b i j n obeys one other. chain_once g b (λ m x there. (obeys.nodes m x there).no_cycle) i j n one other
