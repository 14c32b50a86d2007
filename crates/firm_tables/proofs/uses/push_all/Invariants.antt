use Rattle.std.proofs.Common.{◌≡◌, ◌≢◌, ℕ, suc, take}
use Rattle.cp_obstack.specs.Lists.{list_of}
use Rattle.firm_tables.specs.Nodes.{numbers}
use Rattle.firm_tables.specs.Held.{Covers}
use Rattle.firm_tables.proofs.uses.push_all.Given as goal

abbrev pub invariant-loop-used : goal.invariant-loop-used
invariant-loop-used l =
    Covers (suc l.user) l.uses × (list_of l.uses.uses l.user ≡ take l.used-index (numbers l.list))
    × ((other : ℕ) → other ≢ l.user → list_of l.uses.uses other ≡ list_of l.fn.uses.uses other)
