use Rattle.std.proofs.Common.{◌≡◌, ◌-◌, ℕ, suc, length, map}
use Rattle.cp_obstack.specs.Lists.{list_of}
use Rattle.firm_tables.specs.Nodes.{numbers}
use Rattle.firm_tables.proofs.members.Members.widen.Given as goal

abbrev pub invariant-loop-self : goal.invariant-loop-self
invariant-loop-self l = (other : ℕ) → list_of (map (λ list. numbers list.items) l.self-inside.lists.items) other ≡ list_of l.fn.self other

abbrev pub decreases-loop-self : goal.decreases-loop-self
decreases-loop-self l = suc l.block - length l.self-inside.lists.items
