-- Places in a text, by line and column. Both are counted from 1, and a line ends with its newline.
use Rattle.std.specs.Prelude.{ℕ, ◌+◌, List, length, take, ◌==◌, count_by}
use Rattle.c_lexer.specs.Characters.{newline}
use Rattle.c_lexer.specs.Tokens.{line_front}

-- the newlines before the place, and 1
abbrev pub line_number : List ℕ → ℕ → ℕ
line_number bytes at = 1 + count_by (λ b. b == newline) (take at bytes)

-- the bytes since the last of them, and 1
abbrev pub column_number : List ℕ → ℕ → ℕ
column_number bytes at = 1 + length (line_front (take at bytes))
