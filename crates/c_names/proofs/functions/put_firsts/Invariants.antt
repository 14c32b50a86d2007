-- The functions of the nodes before this one.
use Rattle.std.proofs.Common.{◌≡◌, length}
use Rattle.c_nodes.specs.Parents.{nodes_in}
use Rattle.c_names.specs.Functions.{functions_before}
use Rattle.c_names.proofs.FunctionLaws.{AreSoFar}
use Rattle.c_names.proofs.functions.put_firsts.Given as goal

abbrev pub invariant-loop-number : goal.invariant-loop-number
invariant-loop-number l = record {
  count : l.count ≡ length (functions_before (nodes_in l.scoped) l.number);
  firsts : AreSoFar l.scoped l.number l.firsts;
}
