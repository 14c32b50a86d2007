use Rattle.firm_verify.proofs.ComingLaws.{IsLooked}
use Rattle.firm_verify.proofs.coming.look.Given as goal

abbrev pub invariant-loop-block : goal.invariant-loop-block
invariant-loop-block l = IsLooked l.graph l.chains l.fn.coming.items l.coming.items l.block-items l.block-index l.more
