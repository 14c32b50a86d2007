-- The nodes before this one stand with the objects that they declare.
use Rattle.c_objects.specs.Objects.{AreDeclarationsBefore, nodes_in_lists}
use Rattle.c_objects.proofs.declared.put_declarations.Given as goal

abbrev pub invariant-loop-number : goal.invariant-loop-number
invariant-loop-number l = AreDeclarationsBefore l.scoped l.number (nodes_in_lists l.found)
