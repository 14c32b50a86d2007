use Rattle.std.proofs.Common.{◌≡◌, ◌/◌, ◌^◌, ◌∷◌, List, length}
use Rattle.c_types.specs.Placing.{Placed, painted}
use Rattle.c_types.proofs.area.put_number.Given as goal

-- so many bytes are written, and the rest of the number is left
abbrev pub invariant-loop-k : goal.invariant-loop-k
invariant-loop-k l = record {
  written : (done : List Placed) → l.fn.area ≡ painted done (length l.fn.area)
      → l.area ≡ painted (record { at = l.at; width = l.k; number = l.number } ∷ done) (length l.fn.area);
  left : l.rest ≡ l.number / 256 ^ l.k;
}
