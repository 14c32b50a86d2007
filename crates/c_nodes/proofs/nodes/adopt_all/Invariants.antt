-- What is left to do makes the parents that the whole makes.
use Rattle.std.proofs.Common.{◌≡◌, drop, length}
use Rattle.c_nodes.specs.Parents.{all_adopted}
use Rattle.c_nodes.proofs.nodes.adopt_all.Given as goal

abbrev pub invariant-loop-number : goal.invariant-loop-number
invariant-loop-number l = record {
  left : all_adopted l.number (drop l.number l.nodes) l.parents ≡ all_adopted 0 l.nodes l.fn.parents;
  long : length l.parents ≡ length l.fn.parents;
}
