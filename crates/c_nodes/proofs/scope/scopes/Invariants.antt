-- The scopes so far, and those of the nodes that are left.
use Rattle.std.proofs.Common.{◌≡◌, ◌++◌, map, drop, length}
use Rattle.c_typing.specs.Places.{scopes_of, scopes_from}
use Rattle.c_nodes.specs.Parents.{nodes_in}
use Rattle.c_nodes.specs.Scopes.{scope_of}
use Rattle.c_nodes.specs.Spans.{AreWithin}
use Rattle.c_nodes.proofs.scope.scopes.Given as goal

abbrev pub invariant-loop-number : goal.invariant-loop-number
invariant-loop-number l = record {
  so_far : map scope_of l.spans.items ++ scopes_from (nodes_in l.nodes) (drop l.number (nodes_in l.nodes)) ≡ scopes_of (nodes_in l.nodes);
  within : AreWithin (length l.nodes) l.spans.items;
}
