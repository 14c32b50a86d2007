use Rattle.c_meaning.proofs.RunLaws.{statement_falls, running_has_none}
use Rattle.c_meaning.proofs.laws.turns_fall.Goals as goal

pub returns-clause-statement : goal.returns-clause-statement
returns-clause-statement c u w turns st s t flow few is = statement_falls u w turns st s t flow few is

pub returns-clause-running : goal.returns-clause-running
returns-clause-running c u w turns st s store few is = running_has_none u w turns st s store few is
