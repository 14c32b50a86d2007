use Rattle.std.proofs.Common.{◌≡◌, ◌<◌, ℕ, length, drop, map}
use Rattle.cp_obstack.specs.Lists.{list_of}
use Rattle.firm_uses.specs.Counts.{times, renamed}
use Rattle.firm_uses.proofs.places.rename_all.Given as goal

-- each row is renamed to what it was to be, and one that has the old number is still to come
abbrev pub invariant-loop-user : goal.invariant-loop-user
invariant-loop-user l =
    (length l.uses.rows ≡ length l.fn.uses.rows)
    × ((user : ℕ) → map (renamed l.old l.to) (list_of l.uses.rows user) ≡ map (renamed l.old l.to) (list_of l.fn.uses.rows user))
    × ((user : ℕ) → 0 < times l.old (list_of l.uses.rows user) → 0 < times user (drop l.user-index l.users))
