-- The nodes before this one have their numbers.
use Rattle.std.proofs.Common.{◌≡◌, ◌<◌, ℕ, None, get_or, length}
use Rattle.c_typing.specs.Names.{name_of}
use Rattle.c_names.specs.Denoted.{places_in}
use Rattle.c_locals.specs.Locals.{number_of}
use Rattle.c_locals.proofs.numbers.local_numbers.Given as goal

abbrev pub invariant-loop-number : goal.invariant-loop-number
invariant-loop-number l = record {
  long : length l.found.items ≡ l.number;
  are : (i : ℕ) → i < l.number → get_or l.found.items i None ≡ number_of (places_in l.nodes) (name_of (places_in l.nodes) i);
}
