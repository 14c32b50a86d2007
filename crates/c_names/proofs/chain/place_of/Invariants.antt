-- The scopes of those from here on end before.
use Rattle.std.proofs.Common.{◌<◌, ◌≤◌, drop, length}
use Rattle.std.specs.List.{AllByRecursion}
use Rattle.c_names.specs.Chains.{end_in}
use Rattle.c_names.proofs.chain.place_of.Given as goal

abbrev pub invariant-loop-place : goal.invariant-loop-place
invariant-loop-place l = record {
  low : l.place ≤ length l.chain;
  inner : AllByRecursion (λ inner. end_in inner < l.end) (drop l.place l.chain);
}

abbrev pub decreases-loop-place : goal.decreases-loop-place
decreases-loop-place l = l.place
