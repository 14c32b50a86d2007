-- The objects of the nodes before this one.
use Rattle.std.proofs.Common.{◌≡◌, map}
use Rattle.c_typing.specs.Names.{Name}
use Rattle.c_names.specs.Denoted.{places_in}
use Rattle.c_objects.specs.Objects.{objects_before}
use Rattle.c_objects.proofs.numbers.objects.Given as goal

abbrev pub invariant-loop-number : goal.invariant-loop-number
invariant-loop-number l = l.found.items ≡ map (λ (e : Name). e.node) (objects_before (places_in l.scoped) l.number)
