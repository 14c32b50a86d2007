use Rattle.ssa_core.proofs.Keeps.{full_replaced, gives_after}
use Rattle.ssa_core.proofs.laws.replacing_keeps.Goals as goal

pub returns-clause-full : goal.returns-clause-full
returns-clause-full g c = λ k t old to only is decide b p full. full_replaced k t old to only is decide b p full

pub returns-clause-given : goal.returns-clause-given
returns-clause-given g c = λ k t old to only is decide own b v w becomes gives. gives_after k t old to only is decide own b v w becomes gives
