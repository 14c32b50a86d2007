-- What contracts see of a table of lists that grow.
use Rattle.std.specs.Prelude.{ℕ, List, slice_index, slice_set}

-- the lists, and how many numbers each may gain without asking for memory
pub record Table : Type 0 where
  pub rows : List (List ℕ)
  pub room : List ℕ

abbrev pub room_of : Table → ℕ → ℕ
room_of table row = slice_index table.room row

-- the lists with another in the place of this one
abbrev pub with_list : List (List ℕ) → ℕ → List ℕ → List (List ℕ)
with_list rows row list = slice_set rows row list
