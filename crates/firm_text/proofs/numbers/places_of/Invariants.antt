use Rattle.std.proofs.Common.{◌≡◌, ◌≤◌, ℕ, ◌+◌, drop, length, get_or}
use Rattle.firm_nodes.specs.Kept.{block_numbers}
use Rattle.firm_nodes.proofs.OrderLaws.{place}
use Rattle.firm_text.proofs.numbers.places_of.Given as goal

-- the blocks from the place on have theirs
abbrev pub invariant-loop-place : goal.invariant-loop-place
invariant-loop-place l = record {
  within : l.place ≤ length l.order;
  placed : (b : ℕ) → get_or l.places.items b (length l.order) ≡ l.place + place b (drop l.place (block_numbers l.order));
}

abbrev pub decreases-loop-place : goal.decreases-loop-place
decreases-loop-place l = l.place
