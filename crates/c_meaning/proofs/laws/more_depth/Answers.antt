use Rattle.c_meaning.proofs.RunLaws.{more_depth_same, more_depth_out}
use Rattle.c_meaning.proofs.laws.more_depth.Goals as goal

pub returns-clause-same : goal.returns-clause-same
returns-clause-same c u layout input depth deeper turns le deep = more_depth_same u layout input depth deeper turns le deep

pub returns-clause-output : goal.returns-clause-output
returns-clause-output c u layout input depth deeper turns le = more_depth_out u layout input depth deeper turns le
