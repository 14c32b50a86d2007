use Rattle.firm_rules.proofs.Agreement.{determined}
use Rattle.firm_rules.proofs.laws.run_is_determined.Goals as goal

pub returns : goal.returns
returns c = λ p w h b nodes f s r q one other. determined p w one other
