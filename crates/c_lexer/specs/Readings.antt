-- What the inner functions of the lexer read. These serve inner functions alone: a reader of the public contracts need not read
-- them.
use Rattle.std.specs.Prelude.{◌≡◌, ℕ, ◌-◌, ◌<◌, ◌⊎◌, Bool, true, List, [], ◌∷◌, length, map, take, drop, reverse, slice_index, ◌==◌, ◌&&◌, nat_le, nat_lt, Option, Some, None, option_map, option_and_then, find, codes, if◌then◌else◌}
use Rattle.std.specs.List.{list_all, prefix_len}
use Rattle.std.specs.Str.{bytes_eq}
use Rattle.std.specs.Str.Parse.{digits_value}
use Rattle.c_lexer.specs.declared.number.Suffix.{Suffix}
use Rattle.c_lexer.specs.declared.token.IntType.{IntType}
use Rattle.c_lexer.specs.declared.token.IntType.TheVariants.{Int, UInt, Long, ULong}
use Rattle.c_lexer.specs.declared.token.Punct.{Punct}
use Rattle.c_lexer.specs.declared.token.Punct.TheVariants.{LeftBracket, RightBracket, LeftParenthesis, RightParenthesis, LeftBrace, RightBrace, Dot, Arrow, PlusPlus, MinusMinus, Ampersand, Star, Plus, Minus, Tilde, Exclamation, Slash, Percent, ShiftLeft, ShiftRight, Less, Greater, LessEqual, GreaterEqual, EqualEqual, NotEqual, Caret, Bar, AmpersandAmpersand, BarBar, Question, Colon, Semicolon, Equal, StarEqual, SlashEqual, PercentEqual, PlusEqual, MinusEqual, ShiftLeftEqual, ShiftRightEqual, AmpersandEqual, CaretEqual, BarEqual, Comma}
use Rattle.c_lexer.specs.declared.token.Token.{Token}
use Rattle.c_lexer.specs.declared.token.TokenKind.{TokenKind}
use Rattle.c_lexer.specs.Literals.{StandsFor}
use Rattle.c_lexer.specs.Spellings.{IsToken, IsLongest}
use Rattle.c_lexer.specs.Characters.{is_blank, is_one_of, is_digit, is_octal, is_hexadecimal}
use Rattle.c_lexer.specs.Marks.{mark_text}
use Rattle.c_lexer.specs.Numbers.{suffix_of}
use Rattle.c_lexer.specs.Tokens.{IsLineComment, IsBlockComment, IsSkipped, IsPiece}

-- the text stands for this byte and what the rest stands for
pub record Begins (text : List ℕ) (value : ℕ) (rest : List ℕ) : Type 0 where
  pub stands : (bytes : List ℕ) → StandsFor rest bytes → StandsFor text (value ∷ bytes)
  pub only : (bytes : List ℕ) → StandsFor text bytes → (more : List ℕ) × (bytes ≡ value ∷ more) × StandsFor rest more
  pub shorter : length rest < length text

-- the text stands for no bytes, unless it is empty
abbrev pub HasNone : List ℕ → Type 0
HasNone text = (bytes : List ℕ) → StandsFor text bytes → text ≡ []

-- a text begins with a token of this size
pub record IsTokenAt (text : List ℕ) (size : ℕ) (kind : TokenKind) : Type 0 where
  pub longest : IsLongest text size
  pub token : IsToken (take size text) kind

-- a text begins with no token
abbrev pub HasNoToken : List ℕ → Type 0
HasNoToken text = (n : ℕ) (kind : TokenKind) → IsLongest text n → IsToken (take n text) kind → ⊥

-- no piece stands at a place
abbrev pub HasNoPiece : List ℕ → ℕ → Type 0
HasNoPiece bytes at = (n : ℕ) (tokens : List Token) → IsPiece bytes at n tokens → ⊥

-- the tokens of a piece from a place to another
abbrev pub tokens_of : ℕ → ℕ → Option TokenKind → List Token
tokens_of start end None = []
tokens_of start end (Some kind) = record { kind = kind; start = start; end = end } ∷ []

-- n bytes from here are a blank, a comment or a skipped line
abbrev pub IsBlankPiece : List ℕ → List ℕ → ℕ → Type 0
IsBlankPiece before text n =
    ((b : ℕ) × (rest : List ℕ) × (text ≡ b ∷ rest) × (is_blank b ≡ true) × (n ≡ 1))
    ⊎ (IsLineComment text n ⊎ (IsBlockComment text n ⊎ IsSkipped before text n))

-- ---- punctuators

abbrev pub punctuators : List Punct
punctuators =
    LeftBracket ∷ RightBracket ∷ LeftParenthesis ∷ RightParenthesis ∷ LeftBrace ∷ RightBrace ∷ Dot ∷ Arrow ∷
    PlusPlus ∷ MinusMinus ∷ Ampersand ∷ Star ∷ Plus ∷ Minus ∷ Tilde ∷ Exclamation ∷ Slash ∷ Percent ∷ ShiftLeft ∷
    ShiftRight ∷ Less ∷ Greater ∷ LessEqual ∷ GreaterEqual ∷ EqualEqual ∷ NotEqual ∷ Caret ∷ Bar ∷
    AmpersandAmpersand ∷ BarBar ∷ Question ∷ Colon ∷ Semicolon ∷ Equal ∷ StarEqual ∷ SlashEqual ∷ PercentEqual ∷
    PlusEqual ∷ MinusEqual ∷ ShiftLeftEqual ∷ ShiftRightEqual ∷ AmpersandEqual ∷ CaretEqual ∷ BarEqual ∷ Comma ∷ []

-- each with its text
abbrev pub marks : List (List ℕ × Punct)
marks = map (λ p. (mark_text p, p)) punctuators

-- the punctuator of a text
abbrev pub mark_of : List ℕ → Option Punct
mark_of text = option_map (λ m. m.1) (find (λ m. bytes_eq m.0 text) marks)

-- ---- integer constants, by their suffix from the end

-- `0x` or `0X`
abbrev pub begins_hexadecimal : List ℕ → Bool
begins_hexadecimal text = slice_index text 0 == 48 && is_one_of (codes "xX") (slice_index text 1)

-- a base, and at least one digit of it
abbrev pub in_base : ℕ → (ℕ → Bool) → List ℕ → Option (ℕ × List ℕ)
in_base base is_class digits = if length digits == 0 then None else (if list_all is_class digits then Some (base, digits) else None)

-- hexadecimal ones behind `0x` or `0X`, octal ones that begin with 0, or decimal ones that begin with another digit
abbrev pub digits_of : List ℕ → Option (ℕ × List ℕ)
digits_of text =
    if begins_hexadecimal text then in_base 16 is_hexadecimal (drop 2 text)
    else (if slice_index text 0 == 48 then in_base 8 is_octal text
    else in_base 10 is_digit text)

-- a byte of a suffix; it is no digit of any base
abbrev pub is_suffix_byte : ℕ → Bool
is_suffix_byte = is_one_of (codes "uUlL")

-- how many such bytes end a text
abbrev pub suffix_size : List ℕ → ℕ
suffix_size text = prefix_len is_suffix_byte (reverse text)

-- the type of a value, by the base and the suffix of its constant; above 4294967295 there is none, and above 2147483647
-- none for a decimal one without `u`
abbrev pub type_by_value : ℕ → Suffix → ℕ → Option IntType
type_by_value base s value =
    if nat_lt 4294967295 value then None
    else (if s.has_u then Some (if s.has_l then ULong else UInt)
    else (if nat_le value 2147483647 then Some (if s.has_l then Long else Int)
    else (if base == 10 then None else Some (if s.has_l then ULong else UInt))))

-- the value and the type of these digits with this suffix
abbrev pub typed : ℕ × List ℕ → Suffix → Option (ℕ × IntType)
typed d s = option_map (λ t. (digits_value d.0 d.1, t)) (type_by_value d.0 s (digits_value d.0 d.1))

-- an integer constant: its value and its type. It is digits and a suffix
abbrev pub constant_of : List ℕ → Option (ℕ × IntType)
constant_of text =
    let front = length text - suffix_size text in
    option_and_then (λ s. option_and_then (λ d. typed d s) (digits_of (take front text))) (suffix_of (drop front text))
