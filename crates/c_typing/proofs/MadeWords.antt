-- The words of bytes are spelled as words, and what is spelled as a word is an identifier.
use Rattle.std.proofs.Common.{◌≡◌, ℕ, Bool, true, false, ◌||◌, ◌&&◌, List, [], ◌∷◌, ◌++◌, ◌+◌, refl, sym, arith, true≢false}
use Rattle.std.specs.Prelude.{◌==◌, IsTrue}
use Rattle.std.specs.List.{AllByRecursion, list_all}
use Rattle.std.specs.Char.{is_ascii_alphabetic, is_ascii_alphanumeric}
use Rattle.std.proofs.lemmas.Bool.Decides.{nat_tests}
use Rattle.c_lexer.specs.declared.token.Token.{Token}
use Rattle.c_lexer.specs.declared.token.TokenKind.{TokenKind}
use Rattle.c_lexer.specs.declared.token.TokenKind.TheVariants as token
use Rattle.c_lexer.specs.Characters.{is_nondigit, is_word_byte}
use Rattle.c_lexer.specs.Spellings as spelling
use Rattle.c_lexer.specs.Spellings.{is_word, IsToken}
use Rattle.c_lexer.specs.Tokens as piece
use Rattle.c_lexer.specs.Tokens.{IsPiece, Reaches, HasTokens}
use Rattle.c_types.specs.WellMade.{IsIdentifier}

-- ---- tokens

-- a word is spelled as one
abbrev pub IsSpelled : TokenKind → Type 0
IsSpelled (token.Word text) = is_word text ≡ true
IsSpelled other = Unit {0}

abbrev pub AreSpelled : List Token → Type 0
AreSpelled tokens = AllByRecursion (λ (k : Token). IsSpelled k.kind) tokens

pub all-append : {A : Type 0} (P : A → Type 0) (xs ys : List A) → AllByRecursion P xs → AllByRecursion P ys → AllByRecursion P (xs ++ ys)
all-append P [] ys h k = k
all-append P (x ∷ xs) ys h k = (h.0, all-append P xs ys h.1 k)

token_spelled : (text : List ℕ) (kind : TokenKind) → IsToken text kind → IsSpelled kind
token_spelled _ _ (spelling.word text h) = h
token_spelled _ _ (spelling.integer text value type h e) = tt
token_spelled _ _ (spelling.character text inside value l s) = tt
token_spelled _ _ (spelling.string text inside bytes l s) = tt
token_spelled _ _ (spelling.punctuator text mark e) = tt

piece_spelled : (bytes : List ℕ) (at n : ℕ) (tokens : List Token) → IsPiece bytes at n tokens → AreSpelled tokens
piece_spelled bytes at _ _ (piece.blank b rest e h) = tt
piece_spelled bytes at _ _ (piece.line_comment n h) = tt
piece_spelled bytes at _ _ (piece.block_comment n h) = tt
piece_spelled bytes at _ _ (piece.skipped_line n h) = tt
piece_spelled bytes at _ _ (piece.token n kind e l is) = (token_spelled _ kind is, tt)

reached_spelled : (bytes : List ℕ) (at end : ℕ) (tokens : List Token) → Reaches bytes at end tokens → AreSpelled tokens
reached_spelled bytes _ _ _ (piece.here at) = tt
reached_spelled bytes _ _ _ (piece.piece at n end tokens rest p r) =
    all-append (λ (k : Token). IsSpelled k.kind) tokens rest (piece_spelled bytes at n tokens p) (reached_spelled bytes (at + n) end rest r)

pub tokens_spelled : (bytes : List ℕ) (tokens : List Token) → HasTokens bytes tokens → AreSpelled tokens
tokens_spelled bytes tokens h = reached_spelled bytes 0 _ tokens h

-- ---- texts

both_of : (p q : Bool) → p && q ≡ true → (p ≡ true) × (q ≡ true)
both_of true q e = (refl, e)
both_of false q e = absurd (true≢false (sym e))

first_byte : (b : ℕ) → is_nondigit b ≡ true → (is_ascii_alphabetic b || b == 95) ≡ true
first_byte b h = grind (arith, nat_tests)

later_byte : (b : ℕ) → is_word_byte b ≡ true → (is_ascii_alphanumeric b || b == 95) ≡ true
later_byte b h = grind (arith, nat_tests)

later_bytes : (text : List ℕ) → list_all is_word_byte text ≡ true → AllByRecursion (λ c. IsTrue (is_ascii_alphanumeric c || c == 95)) text
later_bytes [] e = tt
later_bytes (b ∷ text) e = let h = both_of (is_word_byte b) (list_all is_word_byte text) e in (later_byte b h.0, later_bytes text h.1)

pub is_identifier : (text : List ℕ) → is_word text ≡ true → IsIdentifier text
is_identifier [] e = absurd (true≢false (sym e))
is_identifier (b ∷ text) e = let h = both_of (is_nondigit b) (list_all is_word_byte text) e in (first_byte b h.0, later_bytes text h.1)
