-- So many empty lists.
use Rattle.std.proofs.Common.{◌≡◌, length}
use Rattle.c_objects.proofs.DeclarationLaws.{AreEmpty}
use Rattle.c_objects.proofs.declared.empty_lists.Given as goal

abbrev pub invariant-loop : goal.invariant-loop
invariant-loop l = record { long : length l.lists.items ≡ l.counter; empty : AreEmpty l.lists.items }
