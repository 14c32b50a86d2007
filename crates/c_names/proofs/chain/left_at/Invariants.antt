-- Those from here on have ended.
use Rattle.std.proofs.Common.{◌≤◌, drop, length}
use Rattle.std.specs.List.{AllByRecursion}
use Rattle.c_names.specs.Chains.{IsEnded}
use Rattle.c_names.proofs.chain.left_at.Given as goal

abbrev pub invariant-loop-left : goal.invariant-loop-left
invariant-loop-left l = record {
  low : l.left ≤ length l.chain;
  ended : AllByRecursion (IsEnded l.number) (drop l.left l.chain);
}

abbrev pub decreases-loop-left : goal.decreases-loop-left
decreases-loop-left l = l.left
