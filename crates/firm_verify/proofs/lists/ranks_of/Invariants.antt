use Rattle.firm_verify.proofs.TableLaws.{AreRanksFrom}
use Rattle.firm_verify.proofs.lists.ranks_of.Given as goal

abbrev pub invariant-loop-place : goal.invariant-loop-place
invariant-loop-place l = AreRanksFrom l.order l.ranks.items l.place

abbrev pub decreases-loop-place : goal.decreases-loop-place
decreases-loop-place l = l.place
