use Rattle.std.proofs.Common.{◌≡◌, ◌++◌, take}
use Rattle.std.specs.List.{flat_map}
use Rattle.firm_text.specs.Text.{node_line}
use Rattle.firm_text.proofs.blocks.put_nodes.Given as goal

-- what came before is written
abbrev pub invariant-loop-node : goal.invariant-loop-node
invariant-loop-node l = l.out ≡ l.fn.out ++ flat_map (node_line l.graph) (take l.node-index l.nodes)
