-- What is left to do makes the parents that the whole makes.
use Rattle.std.proofs.Common.{◌≡◌, drop, length}
use Rattle.c_nodes.specs.Parents.{adopted}
use Rattle.c_nodes.proofs.nodes.adopt.Given as goal

abbrev pub invariant-loop-index : goal.invariant-loop-index
invariant-loop-index l = record {
  left : adopted l.number l.index (drop l.index l.kids) l.parents ≡ adopted l.number 0 l.kids l.fn.parents;
  long : length l.parents ≡ length l.fn.parents;
}
