-- The nodes that are left decide.
use Rattle.std.proofs.Common.{◌≡◌, drop}
use Rattle.c_nodes.specs.Parents.{nodes_in}
use Rattle.c_uses.proofs.MainLaws.{some_main}
use Rattle.c_uses.proofs.mains.has_main.Given as goal

abbrev pub invariant-loop-number : goal.invariant-loop-number
invariant-loop-number l = some_main l.nodes (drop l.number (nodes_in l.nodes)) ≡ some_main l.nodes (nodes_in l.nodes)
