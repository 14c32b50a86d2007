use Rattle.firm_rules.proofs.RenamedObeys.{still_obeys}
use Rattle.firm_rules.proofs.RenamedRuns.{same_run}
use Rattle.firm_rules.proofs.laws.replacing_keeps.Goals as goal

pub returns-clause-rules : goal.returns-clause-rules
returns-clause-rules c = λ g h old other node obeys whole is phi each differs mode renamed. still_obeys g obeys whole old node is phi other each differs mode h renamed

pub returns-clause-run : goal.returns-clause-run
returns-clause-run c = λ g h old other node p q image layout input depth turns obeys is phi each differs renamed pairs.
    same_run g obeys old node is phi other each differs h renamed p q pairs image layout input depth turns
