use Rattle.std.proofs.Common.{◌≡◌, ◌+◌, ℕ, take}
use Rattle.firm_uses.specs.Counts.{times}
use Rattle.firm_tables.specs.Nodes.{numbers}
use Rattle.firm_verify.proofs.lists.add_all.Given as goal

abbrev pub invariant-loop-node : goal.invariant-loop-node
invariant-loop-node l = (n : ℕ) → times n (numbers l.nodes.items) ≡ times n (numbers l.fn.nodes.items) + times n (take l.node-index (numbers l.more))
