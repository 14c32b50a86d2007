-- None from here on is seen.
use Rattle.std.proofs.Common.{◌≡◌, ◌≤◌, drop, false, length}
use Rattle.std.specs.List.{AllByRecursion}
use Rattle.c_names.specs.Chains.{is_seen}
use Rattle.c_names.proofs.chain.visible.Given as goal

abbrev pub invariant-loop-left : goal.invariant-loop-left
invariant-loop-left l = record {
  low : l.left ≤ length l.chain;
  none : AllByRecursion (λ e. is_seen l.number e ≡ false) (drop l.left l.chain);
}

abbrev pub decreases-loop-left : goal.decreases-loop-left
decreases-loop-left l = l.left
