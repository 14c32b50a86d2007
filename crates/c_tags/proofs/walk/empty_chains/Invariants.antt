-- So many empty chains.
use Rattle.std.proofs.Common.{◌≡◌, length}
use Rattle.c_tags.proofs.ChainLaws.{AreEmpty}
use Rattle.c_tags.proofs.walk.empty_chains.Given as goal

abbrev pub invariant-loop : goal.invariant-loop
invariant-loop l = record { long : length l.chains.items ≡ l.counter; empty : AreEmpty l.chains.items }
