-- Keywords, operators, and tokens as the rules name them. C99 6.4.1, 6.5.
use Rattle.std.specs.Prelude.{ℕ, Bool, true, false, List, [], ◌∷◌, not, codes}
use Rattle.std.specs.List.{list_any}
use Rattle.std.specs.Str.{bytes_eq}
use Rattle.c_lexer.specs.declared.token.IntType.{IntType}
use Rattle.c_lexer.specs.declared.token.Punct.{Punct}
use Rattle.c_lexer.specs.declared.token.Punct.TheVariants.{Ampersand, Star, Plus, Minus, Tilde, Exclamation, Slash, Percent, ShiftLeft, ShiftRight, Less, Greater, LessEqual, GreaterEqual, EqualEqual, NotEqual, Caret, Bar, AmpersandAmpersand, BarBar, Equal, StarEqual, SlashEqual, PercentEqual, PlusEqual, MinusEqual, ShiftLeftEqual, ShiftRightEqual, AmpersandEqual, CaretEqual, BarEqual}
use Rattle.c_lexer.specs.declared.token.Token.{Token}
use Rattle.c_lexer.specs.declared.token.TokenKind.TheVariants as token

-- ---- words

abbrev pub is_among : List (List ℕ) → List ℕ → Bool
is_among texts text = list_any (λ t. bytes_eq t text) texts

abbrev pub keywords : List (List ℕ)
keywords =
    codes "auto" ∷ codes "break" ∷ codes "case" ∷ codes "char" ∷ codes "const" ∷ codes "continue" ∷ codes "default" ∷ codes "do" ∷
    codes "double" ∷ codes "else" ∷ codes "enum" ∷ codes "extern" ∷ codes "float" ∷ codes "for" ∷ codes "goto" ∷ codes "if" ∷
    codes "inline" ∷ codes "int" ∷ codes "long" ∷ codes "register" ∷ codes "restrict" ∷ codes "return" ∷ codes "short" ∷
    codes "signed" ∷ codes "sizeof" ∷ codes "static" ∷ codes "struct" ∷ codes "switch" ∷ codes "typedef" ∷ codes "union" ∷
    codes "unsigned" ∷ codes "void" ∷ codes "volatile" ∷ codes "while" ∷ codes "_Bool" ∷ codes "_Complex" ∷ codes "_Imaginary" ∷ []

-- a word that is no keyword
abbrev pub is_identifier : List ℕ → Bool
is_identifier text = not (is_among keywords text)

-- typeword = "void" | "char" | "short" | "int" | "long" | "signed" | "unsigned" | "_Bool"
abbrev pub is_type_word : List ℕ → Bool
is_type_word text = is_among (
    codes "void" ∷ codes "char" ∷ codes "short" ∷ codes "int" ∷ codes "long" ∷ codes "signed" ∷ codes "unsigned" ∷ codes "_Bool" ∷ []) text

-- the words among specs that say no type
abbrev pub is_storage_word : List ℕ → Bool
is_storage_word text = is_among (
    codes "typedef" ∷ codes "extern" ∷ codes "static" ∷ codes "auto" ∷ codes "register" ∷ codes "const" ∷ []) text

-- ---- operators

-- unop = "&" | "*" | "+" | "-" | "~" | "!"
abbrev pub is_unary_operator : Punct → Bool
is_unary_operator Ampersand = true
is_unary_operator Star = true
is_unary_operator Plus = true
is_unary_operator Minus = true
is_unary_operator Tilde = true
is_unary_operator Exclamation = true
is_unary_operator other = false

-- assignop = "=" | "*=" | "/=" | "%=" | "+=" | "-=" | "<<=" | ">>=" | "&=" | "^=" | "|="
abbrev pub is_assignment : Punct → Bool
is_assignment Equal = true
is_assignment StarEqual = true
is_assignment SlashEqual = true
is_assignment PercentEqual = true
is_assignment PlusEqual = true
is_assignment MinusEqual = true
is_assignment ShiftLeftEqual = true
is_assignment ShiftRightEqual = true
is_assignment AmpersandEqual = true
is_assignment CaretEqual = true
is_assignment BarEqual = true
is_assignment other = false

-- the level of a binary operator, from the tightest, 1, to 10; 0 for all else
abbrev pub level_of : Punct → ℕ
level_of Star = 1
level_of Slash = 1
level_of Percent = 1
level_of Plus = 2
level_of Minus = 2
level_of ShiftLeft = 3
level_of ShiftRight = 3
level_of Less = 4
level_of Greater = 4
level_of LessEqual = 4
level_of GreaterEqual = 4
level_of EqualEqual = 5
level_of NotEqual = 5
level_of Ampersand = 6
level_of Caret = 7
level_of Bar = 8
level_of AmpersandAmpersand = 9
level_of BarBar = 10
level_of other = 0

-- ---- tokens

-- where a token begins, and where it ends
pub record Place : Type 0 where
  pub start : ℕ
  pub end : ℕ

abbrev pub mark : Punct → Place → Token
mark punct at = record { kind = token.Punct punct; start = at.start; end = at.end }

abbrev pub word : List ℕ → Place → Token
word text at = record { kind = token.Word text; start = at.start; end = at.end }

abbrev pub integer : ℕ → IntType → Place → Token
integer value type at = record { kind = token.Int value type; start = at.start; end = at.end }

abbrev pub character : ℕ → Place → Token
character value at = record { kind = token.Char value; start = at.start; end = at.end }

abbrev pub string : List ℕ → Place → Token
string bytes at = record { kind = token.Str bytes; start = at.start; end = at.end }

-- where the first token begins; where there is none, which is never so inside a unit, 0
abbrev pub start_of : List Token → ℕ
start_of [] = 0
start_of (t ∷ rest) = t.start
