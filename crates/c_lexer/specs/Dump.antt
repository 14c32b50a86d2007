-- The text of a token list: a line for each token.
use Rattle.std.specs.Prelude.{ℕ, List, ◌++◌, length, codes}
use Rattle.std.specs.List.{flat_map}
use Rattle.std.specs.Fmt.{decimal}
use Rattle.c_lexer.specs.declared.token.Token.{Token}
use Rattle.c_lexer.specs.declared.token.TokenKind.{TokenKind}
use Rattle.c_lexer.specs.declared.token.TokenKind.TheVariants.{Word, Int, Char, Str, Punct}
use Rattle.c_lexer.specs.Marks.{mark_text}

-- the kind of a token, and its word, number or punctuator; for a string the number of its bytes
abbrev pub kind_text : TokenKind → List ℕ
kind_text (Word name) = codes "word " ++ name
kind_text (Int value type) = codes "int " ++ decimal value
kind_text (Char value) = codes "char " ++ decimal value
kind_text (Str bytes) = codes "string " ++ decimal (length bytes)
kind_text (Punct mark) = codes "punct " ++ mark_text mark

-- where the token begins, where it ends, and what it is
abbrev pub token_text : Token → List ℕ
token_text token = decimal token.start ++ codes " " ++ decimal token.end ++ codes " " ++ kind_text token.kind ++ codes "\n"

unfoldable pub tokens_text : List Token → List ℕ
tokens_text tokens = flat_map token_text tokens
