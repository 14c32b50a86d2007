-- Bytes by their classes.
use Rattle.std.specs.Prelude.{ℕ, Bool, List, ◌==◌, ◌||◌, ◌&&◌, nat_le}
use Rattle.std.specs.List.{list_any}

abbrev pub is_between : ℕ → ℕ → ℕ → Bool
is_between low high b = nat_le low b && nat_le b high

-- one of the bytes of a text
abbrev pub is_one_of : List ℕ → ℕ → Bool
is_one_of text b = list_any (λ c. c == b) text

abbrev pub newline : ℕ
newline = 10

-- C99 6.4: space, tab, newline, vertical tab, form feed; and carriage return besides
abbrev pub is_blank : ℕ → Bool
is_blank b = b == 32 || is_between 9 13 b

-- C99 6.4.2.1, nondigit: a letter or the underscore
abbrev pub is_nondigit : ℕ → Bool
is_nondigit b = is_between 97 122 b || (is_between 65 90 b || b == 95)

abbrev pub is_digit : ℕ → Bool
is_digit = is_between 48 57

abbrev pub is_octal : ℕ → Bool
is_octal = is_between 48 55

abbrev pub is_hexadecimal : ℕ → Bool
is_hexadecimal b = is_digit b || (is_between 97 102 b || is_between 65 70 b)

abbrev pub is_word_byte : ℕ → Bool
is_word_byte b = is_nondigit b || is_digit b
