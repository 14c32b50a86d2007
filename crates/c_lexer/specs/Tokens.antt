-- The tokens of a unit. C99 6.4, 6.4.9; that `#` lines are skipped is a rule of this compiler.
use Rattle.std.specs.Prelude.{◌≡◌, ℕ, ◌+◌, ◌≤◌, Bool, true, false, List, [], ◌∷◌, ◌++◌, length, take, drop, reverse, ◌==◌, ◌||◌, ◌&&◌, not, codes}
use Rattle.std.specs.List.{AllByRecursion, list_all, prefix_len}
use Rattle.c_lexer.specs.declared.token.Token.{Token}
use Rattle.c_lexer.specs.declared.token.TokenKind.{TokenKind}
use Rattle.c_lexer.specs.Characters.{is_blank, newline}
use Rattle.c_lexer.specs.Spellings.{IsToken, IsLongest}

-- `//` or `/*` stands here
abbrev pub begins_comment : List ℕ → Bool
begins_comment [] = false
begins_comment (a ∷ []) = false
begins_comment (a ∷ b ∷ rest) = a == 47 && (b == 47 || b == 42)

-- the text is at its end, or goes on with a newline
abbrev pub EndsLine : List ℕ → Type 0
EndsLine [] = Unit {0}
EndsLine (b ∷ rest) = b ≡ newline

-- no byte is a newline
abbrev pub IsOneLine : List ℕ → Type 0
IsOneLine text = AllByRecursion (λ b. (b == newline) ≡ false) text

-- the text has `*/` in it
abbrev pub has_close : List ℕ → Bool
has_close [] = false
has_close (a ∷ []) = false
has_close (a ∷ b ∷ rest) = (a == 42 && b == 47) || has_close (b ∷ rest)

-- n bytes from here are a comment: `//` and what is left of the line
pub record IsLineComment (text : List ℕ) (n : ℕ) : Type 0 where
  pub body : List ℕ
  pub after : List ℕ
  pub split : text ≡ codes "//" ++ (body ++ after)
  pub line : IsOneLine body
  pub whole : EndsLine after
  pub size : n ≡ 2 + length body

-- n bytes from here are a comment: `/*`, and what comes up to the first `*/`
pub record IsBlockComment (text : List ℕ) (n : ℕ) : Type 0 where
  pub body : List ℕ
  pub after : List ℕ
  pub split : text ≡ codes "/*" ++ (body ++ (codes "*/" ++ after))
  pub first : has_close body ≡ false
  pub size : n ≡ 4 + length body

-- what stands before here on the same line, from its end to its front
abbrev pub line_front : List ℕ → List ℕ
line_front before = let back = reverse before in take (prefix_len (λ b. not (b == newline)) back) back

-- n bytes from here are a skipped line: `#` as the first byte of its line that is no blank, and what is left of the line
pub record IsSkipped (before text : List ℕ) (n : ℕ) : Type 0 where
  pub begins : list_all is_blank (line_front before) ≡ true
  pub body : List ℕ
  pub after : List ℕ
  pub split : text ≡ codes "#" ++ (body ++ after)
  pub line : IsOneLine body
  pub whole : EndsLine after
  pub size : n ≡ 1 + length body

-- the n bytes from a place on are a blank, a comment, a skipped line, or a token that has the longest
-- spelling there and stands where no comment begins
pub data IsPiece (bytes : List ℕ) (at : ℕ) : ℕ → List Token → Type 0 where
  blank : (b : ℕ) (rest : List ℕ) → drop at bytes ≡ b ∷ rest → is_blank b ≡ true → IsPiece bytes at 1 []
  line_comment : (n : ℕ) → IsLineComment (drop at bytes) n → IsPiece bytes at n []
  block_comment : (n : ℕ) → IsBlockComment (drop at bytes) n → IsPiece bytes at n []
  skipped_line : (n : ℕ) → IsSkipped (take at bytes) (drop at bytes) n → IsPiece bytes at n []
  token : (n : ℕ) (kind : TokenKind) → begins_comment (drop at bytes) ≡ false → IsLongest (drop at bytes) n → IsToken (take n (drop at bytes)) kind
      → IsPiece bytes at n (record { kind = kind; start = at; end = at + n } ∷ [])

-- pieces lead from one place to another, with these tokens
pub data Reaches (bytes : List ℕ) : ℕ → ℕ → List Token → Type 0 where
  here : (at : ℕ) → Reaches bytes at at []
  piece : (at n end : ℕ) (tokens rest : List Token) → IsPiece bytes at n tokens → Reaches bytes (at + n) end rest → Reaches bytes at end (tokens ++ rest)

-- these are the tokens of the bytes, in order
abbrev pub HasTokens : List ℕ → List Token → Type 0
HasTokens bytes tokens = Reaches bytes 0 (length bytes) tokens

-- the bytes have no list of tokens, and this is the farthest place that pieces reach
pub record IsLexical (bytes : List ℕ) (at : ℕ) : Type 0 where
  pub none : (tokens : List Token) → HasTokens bytes tokens → ⊥
  pub reached : (tokens : List Token) × Reaches bytes 0 at tokens
  pub farthest : (other : ℕ) (tokens : List Token) → Reaches bytes 0 other tokens → other ≤ at
