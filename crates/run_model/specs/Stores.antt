-- What a run is over, what it has at a moment, and how input and output change that.
use Rattle.std.specs.Prelude.{◌≡◌, ℕ, zero, suc, ◌+◌, ◌-◌, ◌%◌, ◌^◌, List, [], ◌∷◌, ◌++◌, Option, Some, None, slice_get}

-- the same for the whole run: the address of the first byte of the data, the input, and how many calls may be active
-- at a time
pub record World : Type 0 where
  pub base : ℕ
  pub input : List ℕ
  pub depth : ℕ

-- at a moment: the bytes of the data, how many bytes of the input were taken, the output, how many turns are left, and
-- how many calls are active
pub record Store : Type 0 where
  pub bytes : List ℕ
  pub taken : ℕ
  pub out : List ℕ
  pub turns : ℕ
  pub active : ℕ

-- at the start of a run: one call is active, that of `main`
abbrev pub first_store : List ℕ → ℕ → Store
first_store bytes turns = record { bytes = bytes; taken = 0; out = []; turns = turns; active = 1 }

-- the word that reading a byte gives: that byte, or -1 at the end of the input, where C99 has some negative number (7.19.1, 3;
-- 7.19.7.6, 3). An input may be any list of numbers, and each is taken modulo 256.
abbrev pub byte_read : Option ℕ → ℕ
byte_read (Some byte) = byte % 256
byte_read None = 2 ^ 32 - 1

-- how many bytes were taken after one more was asked for
abbrev pub taken_after : ℕ → Option ℕ → ℕ
taken_after taken (Some byte) = taken + 1
taken_after taken None = taken

abbrev pub next_byte : World → Store → Option ℕ
next_byte w s = slice_get w.input s.taken

-- after a byte was asked for
abbrev pub after_read : World → Store → Store
after_read w s = record s { taken = taken_after s.taken (next_byte w s) }

-- after a byte was written: the low byte of the word (C99 7.19.7.3, 2)
abbrev pub after_write : Store → ℕ → Store
after_write s word = record s { out = s.out ++ word % 256 ∷ [] }

abbrev pub with_bytes : Store → List ℕ → Store
with_bytes s bytes = record s { bytes = bytes }

-- the second output begins with the first
pub record IsPrefix (out longer : List ℕ) : Type 0 where
  pub rest : List ℕ
  pub is : longer ≡ out ++ rest
