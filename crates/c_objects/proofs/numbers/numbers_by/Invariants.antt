-- The nodes before this one are told.
use Rattle.std.proofs.Common.{◌≡◌, ◌<◌, ℕ, None, get_or, length}
use Rattle.c_typing.specs.Names.{name_of}
use Rattle.c_names.specs.Denoted.{places_in}
use Rattle.c_objects.specs.Objects.{number_at}
use Rattle.c_objects.proofs.numbers.numbers_by.Given as goal

abbrev pub invariant-loop-number : goal.invariant-loop-number
invariant-loop-number l = record {
  long : length l.found.items ≡ l.number;
  are : (i : ℕ) → i < l.number → get_or l.found.items i None ≡ number_at (places_in l.scoped) (name_of (places_in l.scoped) i);
}
