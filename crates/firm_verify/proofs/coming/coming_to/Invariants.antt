use Rattle.firm_verify.proofs.ComingLaws.{IsFound}
use Rattle.firm_verify.proofs.coming.coming_to.Given as goal

abbrev pub invariant-loop-pred : goal.invariant-loop-pred
invariant-loop-pred l = IsFound l.graph l.chains l.coming l.block.number l.pred-items l.pred-index l.found
