use Rattle.firm_rules.proofs.RunLaws.{stuck_where as lemma}
use Rattle.firm_rules.proofs.laws.stuck_where.Goals as goal

pub returns : goal.returns
returns c = λ p image layout input depth turns cause closed obeys is. lemma p closed obeys image layout input depth turns cause is
