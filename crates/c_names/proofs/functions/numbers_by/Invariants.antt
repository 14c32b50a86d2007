-- The nodes before this one have their numbers.
use Rattle.std.proofs.Common.{◌≡◌, ◌<◌, ℕ, None, get_or, length}
use Rattle.c_names.specs.Functions.{IsNumber}
use Rattle.c_names.proofs.functions.numbers_by.Given as goal

abbrev pub invariant-loop-number : goal.invariant-loop-number
invariant-loop-number l = record {
  long : length l.found.items ≡ l.number;
  are : (i : ℕ) → i < l.number → IsNumber l.scoped i (get_or l.found.items i None);
}
