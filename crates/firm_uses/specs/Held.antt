-- How the rows of a table stand in the lists of an obstack.
use Rattle.std.specs.Prelude.{◌≡◌, ◌-◌, ◌<◌, ◌≤◌, ℕ, List, length, take, map, slice_index_or}
use Rattle.cp_obstack.specs.Lists.{list_of}
use Rattle.firm_uses.specs.declared.rows.Row.{Row}
use Rattle.firm_uses.specs.Tables.{Table}

-- what a row says, by its list in the obstack and its length
abbrev pub seen : {A : Type 0} → (List ℕ → ℕ → A) → List (List ℕ) → Row → A
seen f lists row = f (list_of lists row.span.number) row.len

abbrev pub front : List ℕ → ℕ → List ℕ
front list len = take len list

abbrev pub room : List ℕ → ℕ → ℕ
room list len = length list - len

abbrev pub table_of : List (List ℕ) → List Row → Table
table_of lists rows = record { rows = map (seen front lists) rows; room = map (seen room lists) rows }

abbrev pub no_row : Row
no_row = record { span = record { number = 0 }; len = 0 }

abbrev pub row_at : List Row → ℕ → Row
row_at rows k = slice_index_or rows k no_row

abbrev pub span_at : List Row → ℕ → ℕ
span_at rows k = (row_at rows k).span.number

-- each row is the front of a list, and no two of one list
pub record AreApart (lists : List (List ℕ)) (rows : List Row) : Type 0 where
  pub there : (k : ℕ) → k < length rows → span_at rows k < length lists
  pub within : (k : ℕ) → k < length rows → (row_at rows k).len ≤ length (list_of lists (span_at rows k))
  pub apart : (j k : ℕ) → j < length rows → k < length rows → span_at rows j ≡ span_at rows k → j ≡ k
