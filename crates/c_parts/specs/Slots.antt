-- The place of a word in the table of keywords. This serves `is_identifier` alone: a reader of the public contracts need not
-- read it.
use Rattle.std.specs.Prelude.{ℕ, ◌+◌, ◌*◌, ◌-◌, ◌%◌, List, length, slice_index, nat_lt, if◌then◌else◌}

-- by its length and its first and last byte
abbrev pub slot_of : List ℕ → ℕ
slot_of text = if nat_lt (length text) 2 then 0 else (length text + 9 * slice_index text 0 + slice_index text (length text - 1)) % 95
