-- What contracts see of an obstack.
use Rattle.std.specs.Prelude.{ℕ, List, [], length, max, slice_index_or, slice_set}

-- the lists, the first pushed first, and what may be pushed without asking for memory
pub record Lists : Type 0 where
  pub lists : List (List ℕ)
  pub spare : ℕ

-- the list of this number
abbrev pub list_of : List (List ℕ) → ℕ → List ℕ
list_of lists number = slice_index_or lists number []

-- the lists after a change of one number of one list
abbrev pub with_number : List (List ℕ) → ℕ → ℕ → ℕ → List (List ℕ)
with_number lists number index value = slice_set lists number (slice_set (list_of lists number) index value)

-- what a list takes of the spare room
abbrev pub price : List ℕ → ℕ
price items = max 1 (length items)
