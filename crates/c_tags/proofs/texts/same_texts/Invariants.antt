-- The map says what the nodes so far say.
use Rattle.std.proofs.Common.{◌≡◌, ℕ, ◌<◌, get_or, length, take}
use Rattle.c_nodes.specs.Parents.{nodes_in}
use Rattle.c_names.specs.Texts.{IsFirst, Says}
use Rattle.c_tags.proofs.texts.same_texts.Given as goal

abbrev pub invariant-loop-number : goal.invariant-loop-number
invariant-loop-number l = record {
  says : Says l.firsts (take l.number (nodes_in l.nodes));
  long : length l.found.items ≡ l.number;
  firsts : (i : ℕ) → i < l.number → IsFirst (nodes_in l.nodes) i (get_or l.found.items i 0);
}
