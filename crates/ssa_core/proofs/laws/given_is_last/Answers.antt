use Rattle.ssa_core.proofs.GlobalTheorem.{is_last_written, is_on_walk}
use Rattle.ssa_core.proofs.laws.given_is_last.Goals as goal

pub returns-clause-last : goal.returns-clause-last
returns-clause-last g c = λ k full w is own v reaches gives. is_last_written k full w is own v reaches gives

pub returns-clause-on_walk : goal.returns-clause-on_walk
returns-clause-on_walk g c = λ k full w is own v reaches gives. is_on_walk k full w is own v reaches gives
