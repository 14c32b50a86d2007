-- The table of places in the order.
use Rattle.std.specs.Prelude.{◌≡◌, ◌==◌, ℕ, List, length, slice_index_or}
use Rattle.std.specs.List.{position_or_len}

-- for each block its place in the order; for a number past the table, as for a block that is not in the order, the length of the order
abbrev pub ArePlaces : List ℕ → List ℕ → Type 0
ArePlaces order places = (b : ℕ) → slice_index_or places b (length order) ≡ position_or_len (λ c. c == b) order
