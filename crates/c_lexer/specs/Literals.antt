-- Character constants and string literals. C99 6.4.4.4, 6.4.5: one byte in a character constant, which is a number from 0
-- to 255; no wide literals, and no line that goes on behind a backslash.
use Rattle.std.specs.Prelude.{◌≡◌, ℕ, ◌≤◌, ◌⊎◌, Bool, true, false, List, [], ◌∷◌, ◌++◌, length, ◌==◌, ◌||◌, ◌&&◌, not, Option, Some, find, option_map}
use Rattle.std.specs.List.{AllByRecursion}
use Rattle.std.specs.Str.Parse.{digits_value}
use Rattle.c_lexer.specs.Characters.{newline, is_octal, is_hexadecimal}

abbrev pub backslash : ℕ
backslash = 92

-- what may stand between two of this quote: bytes other than the quote, a newline and a backslash, and pairs of a
-- backslash and a byte other than a newline
abbrev pub is_inside : ℕ → List ℕ → Bool
is_inside quote [] = true
is_inside quote (b ∷ []) = not (b == quote || (b == newline || b == backslash))
is_inside quote (a ∷ b ∷ rest) =
    (a == backslash && (not (b == newline) && is_inside quote rest))
    || (not (a == quote || (a == newline || a == backslash)) && is_inside quote (b ∷ rest))

-- a simple escape: the byte behind the backslash, and its value: n t r \ ' " ? a b f v
abbrev pub escapes : List (ℕ × ℕ)
escapes = (110, 10) ∷ (116, 9) ∷ (114, 13) ∷ (92, 92) ∷ (39, 39) ∷ (34, 34) ∷ (63, 63) ∷ (97, 7) ∷ (98, 8) ∷ (102, 12) ∷ (118, 11) ∷ []

abbrev pub escape_value : ℕ → Option ℕ
escape_value b = option_map (λ e. e.1) (find (λ e. e.0 == b) escapes)

-- the text does not go on with a byte of this class
abbrev pub EndsBefore : (ℕ → Bool) → List ℕ → Type 0
EndsBefore is_class [] = Unit {0}
EndsBefore is_class (b ∷ rest) = is_class b ≡ false

-- one to three octal digits, and as many as there are
pub record IsOctal (digits rest : List ℕ) : Type 0 where
  pub some : 1 ≤ length digits
  pub most : length digits ≤ 3
  pub each : AllByRecursion (λ b. is_octal b ≡ true) digits
  pub whole : (length digits ≡ 3) ⊎ EndsBefore is_octal rest

-- one hexadecimal digit or more, and as many as there are
pub record IsHexadecimal (digits rest : List ℕ) : Type 0 where
  pub some : 1 ≤ length digits
  pub each : AllByRecursion (λ b. is_hexadecimal b ≡ true) digits
  pub whole : EndsBefore is_hexadecimal rest

-- the text between the quotes stands for these bytes
pub data StandsFor : List ℕ → List ℕ → Type 0 where
  nothing : StandsFor [] []
  plain : (b : ℕ) (rest bytes : List ℕ) → (b == backslash) ≡ false → StandsFor rest bytes → StandsFor (b ∷ rest) (b ∷ bytes)
  simple : (b value : ℕ) (rest bytes : List ℕ) → escape_value b ≡ Some value → StandsFor rest bytes → StandsFor (backslash ∷ b ∷ rest) (value ∷ bytes)
  octal : (text digits rest bytes : List ℕ) → text ≡ digits ++ rest → IsOctal digits rest → digits_value 8 digits ≤ 255 → StandsFor rest bytes
      → StandsFor (backslash ∷ text) (digits_value 8 digits ∷ bytes)
  hexadecimal : (text digits rest bytes : List ℕ) → text ≡ 120 ∷ (digits ++ rest) → IsHexadecimal digits rest → digits_value 16 digits ≤ 255 → StandsFor rest bytes
      → StandsFor (backslash ∷ text) (digits_value 16 digits ∷ bytes)

abbrev pub single_quote : ℕ
single_quote = 39

abbrev pub double_quote : ℕ
double_quote = 34

-- a quote, what may stand inside, and the quote again
pub record IsLiteral (quote : ℕ) (inside text : List ℕ) : Type 0 where
  pub split : text ≡ quote ∷ (inside ++ quote ∷ [])
  pub allowed : is_inside quote inside ≡ true
