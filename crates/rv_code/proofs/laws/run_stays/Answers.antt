use Rattle.rv_code.proofs.RunLaws.{ended_stays, stuck_stays}
use Rattle.rv_code.proofs.laws.run_stays.Goals as goal

pub returns-clause-ended : goal.returns-clause-ended
returns-clause-ended c = ended_stays

pub returns-clause-stuck : goal.returns-clause-stuck
returns-clause-stuck c = stuck_stays
