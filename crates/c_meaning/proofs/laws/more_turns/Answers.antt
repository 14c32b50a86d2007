use Rattle.c_meaning.proofs.RunLaws.{more_turns_same, more_turns_out, more_turns_running}
use Rattle.c_meaning.proofs.laws.more_turns.Goals as goal

pub returns-clause-same : goal.returns-clause-same
returns-clause-same c u layout input depth turns more le runs = more_turns_same u layout input depth turns more le runs

pub returns-clause-output : goal.returns-clause-output
returns-clause-output c u layout input depth turns more le = more_turns_out u layout input depth turns more le

pub returns-clause-running : goal.returns-clause-running
returns-clause-running c u layout input depth turns more le is = more_turns_running u layout input depth turns more le is
