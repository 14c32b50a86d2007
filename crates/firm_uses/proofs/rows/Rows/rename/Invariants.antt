use Rattle.std.proofs.Common.{◌≡◌, length}
use Rattle.cp_obstack.specs.Lists.{list_of}
use Rattle.firm_uses.specs.Tables.{with_list}
use Rattle.firm_uses.proofs.EditLaws.{renamed_to}
use Rattle.firm_uses.proofs.rows.Rows.rename.Given as goal

abbrev pub invariant-loop-index : goal.invariant-loop-index
invariant-loop-index l =
    (l.self.rows ≡ with_list l.fn.self.rows l.row (renamed_to l.old l.to (list_of l.fn.self.rows l.row) l.index))
    × (l.index-end ≡ length (list_of l.fn.self.rows l.row))
