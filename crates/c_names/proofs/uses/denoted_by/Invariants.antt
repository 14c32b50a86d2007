-- The chains stand for the names that begin before this node, and the uses before it have what they denote.
use Rattle.std.proofs.Common.{◌≡◌, ◌<◌, ℕ, None, get_or, length}
use Rattle.c_names.specs.Chains.{chains_of}
use Rattle.c_names.specs.Denoted.{IsDenoted}
use Rattle.c_names.proofs.UseLaws.{StandAll}
use Rattle.c_names.proofs.uses.denoted_by.Given as goal

abbrev pub invariant-loop-number : goal.invariant-loop-number
invariant-loop-number l = record {
  stand : StandAll l.scoped l.number (chains_of l.chains);
  long : length l.found.items ≡ l.number;
  are : (i : ℕ) → i < l.number → IsDenoted l.scoped i (get_or l.found.items i None);
}
