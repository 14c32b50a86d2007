-- Spellings of tokens, and what they stand for. C99 6.4.
use Rattle.std.specs.Prelude.{◌≡◌, ℕ, ◌<◌, ◌≤◌, Bool, true, false, List, [], ◌∷◌, length, take, ◌&&◌}
use Rattle.std.specs.List.{list_all}
use Rattle.c_lexer.specs.declared.token.IntType.{IntType}
use Rattle.c_lexer.specs.declared.token.Punct.{Punct}
use Rattle.c_lexer.specs.declared.token.TokenKind.{TokenKind}
use Rattle.c_lexer.specs.declared.token.TokenKind.TheVariants as kind
use Rattle.c_lexer.specs.Characters.{is_nondigit, is_word_byte}
use Rattle.c_lexer.specs.Marks.{mark_text}
use Rattle.c_lexer.specs.Numbers.{is_number_run, IsConstant}
use Rattle.c_lexer.specs.Literals.{IsLiteral, single_quote, double_quote, StandsFor}

-- C99 6.4.2.1: an identifier, or a keyword
abbrev pub is_word : List ℕ → Bool
is_word [] = false
is_word (first ∷ rest) = is_nondigit first && list_all is_word_byte rest

-- a text that is spelled as a token. A number run or a literal need not stand for one
pub data IsSpelling : List ℕ → Type 0 where
  as_word : (text : List ℕ) → is_word text ≡ true → IsSpelling text
  as_number_run : (text : List ℕ) → is_number_run text ≡ true → IsSpelling text
  as_character : (text inside : List ℕ) → IsLiteral single_quote inside text → IsSpelling text
  as_string : (text inside : List ℕ) → IsLiteral double_quote inside text → IsSpelling text
  as_punctuator : (text : List ℕ) (mark : Punct) → text ≡ mark_text mark → IsSpelling text

-- the token of a spelling
pub data IsToken : List ℕ → TokenKind → Type 0 where
  word : (text : List ℕ) → is_word text ≡ true → IsToken text (kind.Word text)
  integer : (text : List ℕ) (value : ℕ) (type : IntType) → is_number_run text ≡ true → IsConstant text value type → IsToken text (kind.Int value type)
  character : (text inside : List ℕ) (value : ℕ) → IsLiteral single_quote inside text → StandsFor inside (value ∷ []) → IsToken text (kind.Char value)
  string : (text inside bytes : List ℕ) → IsLiteral double_quote inside text → StandsFor inside bytes → IsToken text (kind.Str bytes)
  punctuator : (text : List ℕ) (mark : Punct) → text ≡ mark_text mark → IsToken text (kind.Punct mark)

-- the longest front of a text that is a spelling has n bytes
pub record IsLongest (text : List ℕ) (n : ℕ) : Type 0 where
  pub some : 0 < n
  pub within : n ≤ length text
  pub spelled : IsSpelling (take n text)
  pub longest : (m : ℕ) → n < m → m ≤ length text → IsSpelling (take m text) → ⊥
