-- How often a number stands in a list, and a number in the place of another.
use Rattle.std.specs.Prelude.{◌≡◌, ◌==◌, ◌+◌, ◌≤◌, ℕ, List, [], ◌∷◌, map, slice_index, if◌then◌else◌}
use Rattle.cp_obstack.specs.Lists.{list_of}

abbrev pub times : ℕ → List ℕ → ℕ
times x [] = 0
times x (y ∷ ys) = (if y == x then 1 else 0) + times x ys

-- `old` becomes `to`, and any other number stays
abbrev pub renamed : ℕ → ℕ → ℕ → ℕ
renamed old to x = if x == old then to else x

-- the same in every row
abbrev pub renamed_rows : ℕ → ℕ → List (List ℕ) → List (List ℕ)
renamed_rows old to rows = map (map (renamed old to)) rows

-- each used one has each user as often as that user has it
abbrev pub AreTied : List (List ℕ) → List (List ℕ) → Type 0
AreTied uses users = (user used : ℕ) → times user (list_of users used) ≡ times used (list_of uses user)

-- What contracts see of uses: what each user uses, and for each that can be used how many users stand with it and how many more may
-- without asking for memory.
pub record Used : Type 0 where
  pub uses : List (List ℕ)
  pub loads : List ℕ
  pub room : List ℕ

-- `to` has room for the users of `old`
abbrev pub HasRoom : Used → ℕ → ℕ → Type 0
HasRoom used old to = slice_index used.loads old ≤ slice_index used.room to
