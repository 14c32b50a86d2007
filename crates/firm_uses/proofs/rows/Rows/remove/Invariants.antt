use Rattle.std.proofs.Common.{◌≡◌, suc, length}
use Rattle.cp_obstack.specs.Lists.{list_of}
use Rattle.firm_uses.specs.Tables.{with_list}
use Rattle.firm_uses.proofs.EditLaws.{moved_up}
use Rattle.firm_uses.proofs.rows.Rows.remove.Given as goal

abbrev pub invariant-loop-at : goal.invariant-loop-at
invariant-loop-at l =
    (l.self.rows ≡ with_list l.fn.self.rows l.row (moved_up (list_of l.fn.self.rows l.row) l.index l.at))
    × (suc l.last ≡ length (list_of l.fn.self.rows l.row))
