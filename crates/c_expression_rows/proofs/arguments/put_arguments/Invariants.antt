-- Those before this one were taken.
use Rattle.std.proofs.Common.{◌≡◌, ◌<◌, ◌≤◌, ℕ, suc, length}
use Rattle.c_typing.specs.Places.{other_kids}
use Rattle.c_meanings.specs.Meanings.{AreLeft, IsReady, judged_to, kid_in, node_in}
use Rattle.c_expression_rows.specs.Calls.{AreOf}
use Rattle.c_expression_rows.proofs.arguments.put_arguments.Given as goal

abbrev pub invariant-loop-index : goal.invariant-loop-index
invariant-loop-index l = record {
  count : l.index ≡ suc (length l.arguments.items);
  are : AreOf l.meanings.types (judged_to l.nodes l.node) l.arguments.items (other_kids (node_in l.nodes l.node));
  ready : (low : ℕ) × IsReady l.nodes l.node low l.meanings × (l.index < length (node_in l.nodes l.node).kids → low ≤ kid_in l.nodes l.node l.index);
  left : AreLeft l.nodes l.node l.initial.meanings l.meanings;
  types : l.meanings.types ≡ l.initial.meanings.types;
}
