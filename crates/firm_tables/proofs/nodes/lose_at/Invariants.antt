use Rattle.std.proofs.Common.{◌≡◌, ℕ, length, take, get_or}
use Rattle.cp_obstack.specs.Lists.{list_of}
use Rattle.firm_uses.specs.Counts.{times}
use Rattle.firm_tables.specs.Nodes.{numbers}
use Rattle.firm_tables.specs.Held.{no_row, lost_times, Covers}
use Rattle.firm_tables.proofs.nodes.lose_at.Given as goal

abbrev pub invariant-loop-node : goal.invariant-loop-node
invariant-loop-node l =
    Covers (length l.rows) l.operands
    × ((n : ℕ) → list_of l.operands.uses n ≡ lost_times (times n (take l.node-index (numbers l.nodes))) (get_or l.rows n no_row).op l.place (list_of l.fn.operands.uses n))
