-- Number runs and integer constants.
use Rattle.std.specs.Prelude.{◌≡◌, ℕ, Bool, true, false, List, [], ◌∷◌, ◌++◌, drop, ◌==◌, ◌||◌, ◌&&◌, nat_le, Option, Some, option_map, find, codes}
use Rattle.std.specs.List.{list_all, zip}
use Rattle.std.specs.Str.{bytes_eq}
use Rattle.std.specs.Str.Parse.{digits_value}
use Rattle.c_lexer.specs.declared.number.Suffix.{Suffix}
use Rattle.c_lexer.specs.declared.token.IntType.{IntType}
use Rattle.c_lexer.specs.declared.token.IntType.TheVariants.{Int, UInt, Long, ULong}
use Rattle.c_lexer.specs.Characters.{is_between, is_one_of, is_digit, is_octal, is_hexadecimal, is_word_byte}

-- a digit, or a dot and a digit
abbrev pub begins_number : List ℕ → Bool
begins_number [] = false
begins_number (a ∷ []) = is_digit a
begins_number (a ∷ b ∷ rest) = is_digit a || (a == 46 && is_digit b)

-- a letter, a digit, an underscore or a dot; or a sign right after e, E, p or P
abbrev pub continues_number : ℕ × ℕ → Bool
continues_number (before, b) = is_word_byte b || (b == 46 || (is_one_of (codes "+-") b && is_one_of (codes "eEpP") before))

-- C99 6.4.8: a preprocessing number
abbrev pub is_number_run : List ℕ → Bool
is_number_run text = begins_number text && list_all continues_number (zip text (drop 1 text))

-- ---- C99 6.4.4.1: integer constants. `int` and `long` have 32 bits, and there is no `long long`

-- a digit other than 0
abbrev pub is_nonzero_digit : ℕ → Bool
is_nonzero_digit = is_between 49 57

-- what stands before the digits of a constant, its digits, and their base
pub data IsNumeral : (front digits : List ℕ) (base : ℕ) → Type 0 where
  decimal : (first : ℕ) (rest : List ℕ) → is_nonzero_digit first ≡ true → list_all is_digit rest ≡ true → IsNumeral [] (first ∷ rest) 10
  octal : (rest : List ℕ) → list_all is_octal rest ≡ true → IsNumeral [] (48 ∷ rest) 8
  hexadecimal : (x first : ℕ) (rest : List ℕ) → is_one_of (codes "xX") x ≡ true → is_hexadecimal first ≡ true → list_all is_hexadecimal rest ≡ true
      → IsNumeral (48 ∷ x ∷ []) (first ∷ rest) 16

-- the suffixes, and whether they have a `u` and an `l`
abbrev pub suffixes : List (List ℕ × Suffix)
suffixes =
    (codes "", record { has_u = false; has_l = false }) ∷
    (codes "u", record { has_u = true; has_l = false }) ∷ (codes "U", record { has_u = true; has_l = false }) ∷
    (codes "l", record { has_u = false; has_l = true }) ∷ (codes "L", record { has_u = false; has_l = true }) ∷
    (codes "ul", record { has_u = true; has_l = true }) ∷ (codes "uL", record { has_u = true; has_l = true }) ∷
    (codes "Ul", record { has_u = true; has_l = true }) ∷ (codes "UL", record { has_u = true; has_l = true }) ∷
    (codes "lu", record { has_u = true; has_l = true }) ∷ (codes "lU", record { has_u = true; has_l = true }) ∷
    (codes "Lu", record { has_u = true; has_l = true }) ∷ (codes "LU", record { has_u = true; has_l = true }) ∷ []

abbrev pub suffix_of : List ℕ → Option Suffix
suffix_of text = option_map (λ s. s.1) (find (λ s. bytes_eq s.0 text) suffixes)

-- the types that a constant may have, in order: by whether it is decimal, and whether it has a `u` and an `l`
abbrev pub types_of : Bool → Bool → Bool → List IntType
types_of true false false = Int ∷ Long ∷ []
types_of false false false = Int ∷ UInt ∷ Long ∷ ULong ∷ []
types_of true true false = UInt ∷ ULong ∷ []
types_of false true false = UInt ∷ ULong ∷ []
types_of true false true = Long ∷ []
types_of false false true = Long ∷ ULong ∷ []
types_of true true true = ULong ∷ []
types_of false true true = ULong ∷ []

-- the greatest number of a type
abbrev pub greatest_of : IntType → ℕ
greatest_of Int = 2147483647
greatest_of UInt = 4294967295
greatest_of Long = 2147483647
greatest_of ULong = 4294967295

-- the type of a value is the first of its list that has the value
abbrev pub type_of : ℕ → Suffix → ℕ → Option IntType
type_of base s value = find (λ t. nat_le value (greatest_of t)) (types_of (base == 10) s.has_u s.has_l)

-- the text is an integer constant of this value and this type: a front, digits and a suffix
pub record IsConstant (text : List ℕ) (value : ℕ) (type : IntType) : Type 0 where
  pub front : List ℕ
  pub digits : List ℕ
  pub suffix : List ℕ
  pub split : text ≡ front ++ (digits ++ suffix)
  pub base : ℕ
  pub numeral : IsNumeral front digits base
  pub ending : Suffix
  pub suffix_is : suffix_of suffix ≡ Some ending
  pub value_is : value ≡ digits_value base digits
  pub type_is : type_of base ending value ≡ Some type
