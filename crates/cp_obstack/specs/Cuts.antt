-- How the lists stand in the vectors.
use Rattle.std.specs.Prelude.{◌≡◌, ℕ, ◌+◌, ◌-◌, List, [], ◌∷◌, length, take, drop}
use Rattle.std.specs.List.{concat}

-- the lists from one that starts at `start`, where the later ones start at these places, and these are the numbers from there on
abbrev pub cut_from : ℕ → List ℕ → List ℕ → List (List ℕ)
cut_from start [] numbers = numbers ∷ []
cut_from start (next ∷ starts) numbers = take (next - start) numbers ∷ cut_from next starts (drop (next - start) numbers)

-- the lists that start at these places among the numbers
abbrev pub cut : List ℕ → List ℕ → List (List ℕ)
cut [] numbers = []
cut (start ∷ starts) numbers = cut_from start starts numbers

-- where each list starts, when they stand one behind the other
abbrev pub starts_from : ℕ → List (List ℕ) → List ℕ
starts_from start [] = []
starts_from start (list ∷ lists) = start ∷ starts_from (start + length list) lists

-- the numbers are those of the lists, and each list starts where the one before it ends
pub record IsCut (starts numbers : List ℕ) : Type 0 where
  pub numbers_are : numbers ≡ concat (cut starts numbers)
  pub starts_are : starts ≡ starts_from 0 (cut starts numbers)
