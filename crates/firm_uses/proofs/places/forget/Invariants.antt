use Rattle.std.proofs.Common.{◌≡◌, ◌==◌, ◌+◌, ℕ, length, take, if◌then◌else◌}
use Rattle.cp_obstack.specs.Lists.{list_of}
use Rattle.firm_uses.specs.Counts.{times}
use Rattle.firm_uses.proofs.places.forget.Given as goal

abbrev pub invariant-loop-used : goal.invariant-loop-used
invariant-loop-used l =
    (length l.users.rows ≡ length l.fn.users.rows)
    × ((x used : ℕ) → times x (list_of l.users.rows used) + (if x == l.user then times used (take l.used-index l.all_used) else 0)
    ≡ times x (list_of l.fn.users.rows used))
