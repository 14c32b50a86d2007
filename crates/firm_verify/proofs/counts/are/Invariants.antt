use Rattle.std.proofs.Common.{◌≡◌, ◌<◌, ℕ, get_or, None, Some}
use Rattle.firm_rules.specs.declared.node.Mode.TheVariants.{Word}
use Rattle.firm_verify.proofs.counts.are.Given as goal

abbrev pub invariant-loop-index : goal.invariant-loop-index
invariant-loop-index l = (k : ℕ) → k < l.index → get_or l.modes (get_or l.operands k 0) None ≡ Some (get_or l.wanted k Word)
