use Rattle.std.proofs.Common.{◌≡◌, ◌≤◌, ◌+◌, ◌++◌, length, take}
use Rattle.cp_obstack.specs.Lists.{list_of}
use Rattle.firm_uses.specs.Tables.{with_list, room_of}
use Rattle.firm_uses.proofs.rows.Rows.extend.Given as goal

abbrev pub invariant-loop-index : goal.invariant-loop-index
invariant-loop-index l =
    (l.self.rows ≡ with_list l.fn.self.rows l.row (list_of l.fn.self.rows l.row ++ take l.index (list_of l.fn.self.rows l.from)))
    × (l.count ≤ room_of l.self l.row + l.index) × (l.count ≡ length (list_of l.fn.self.rows l.from))
