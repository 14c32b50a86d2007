-- What a reading function answers, and how readings follow one another. These serve the reading function, and so laws and inner
-- functions alone.
use Rattle.std.specs.Prelude.{ℕ, Bool, List, [], ◌∷◌, if◌then◌else◌, nat_lt}
use Rattle.std.specs.Str.{bytes_eq}
use Rattle.c_lexer.specs.declared.token.IntType.{IntType}
use Rattle.c_lexer.specs.declared.token.Punct.{Punct}
use Rattle.c_lexer.specs.declared.token.Token.{Token}
use Rattle.c_lexer.specs.declared.token.TokenKind.{TokenKind}
use Rattle.c_lexer.specs.declared.token.TokenKind.TheVariants as token
use Rattle.c_lexer.specs.Marks.{mark_text}
use Rattle.c_grammar.specs.Vocabulary.{Place, is_identifier}

-- what was read, and the tokens behind it; or that the first of these tokens cannot stand there; or that the tokens before
-- them make it too deep
pub data Answer (T : Type 0) : Type 0 where
  found : T → List Token → Answer T
  wrong : List Token → Answer T
  deep : List Token → Answer T

-- one reading and then another
unfoldable pub and_then : {T U : Type 0} → Answer T → (T → List Token → Answer U) → Answer U
and_then (found t rest) go = go t rest
and_then (wrong rest) go = wrong rest
and_then (deep rest) go = deep rest

-- the budget has to be so much behind this token
unfoldable pub fit : {U : Type 0} → ℕ → ℕ → List Token → Answer U → Answer U
fit needed budget rest answer = if nat_lt budget needed then deep rest else answer

-- ---- the first token

pub data Ahead : Type 0 where
  nothing_ahead : Ahead
  mark_ahead : Punct → Place → List Token → Ahead
  word_ahead : List ℕ → Place → List Token → Ahead
  integer_ahead : ℕ → IntType → Place → List Token → Ahead
  character_ahead : ℕ → Place → List Token → Ahead
  string_ahead : List ℕ → Place → List Token → Ahead

unfoldable pub ahead_by : TokenKind → Place → List Token → Ahead
ahead_by (token.Punct p) at rest = mark_ahead p at rest
ahead_by (token.Word text) at rest = word_ahead text at rest
ahead_by (token.Int value type) at rest = integer_ahead value type at rest
ahead_by (token.Char value) at rest = character_ahead value at rest
ahead_by (token.Str bytes) at rest = string_ahead bytes at rest

unfoldable pub ahead : List Token → Ahead
ahead [] = nothing_ahead
ahead (t ∷ rest) = ahead_by t.kind (record { start = t.start; end = t.end }) rest

abbrev pub same_mark : Punct → Punct → Bool
same_mark p q = bytes_eq (mark_text p) (mark_text q)

-- this mark, and then a reading
unfoldable pub expect_by : {U : Type 0} → Punct → List Token → (List Token → Answer U) → Ahead → Answer U
expect_by p ts go (mark_ahead q at rest) = if same_mark p q then go rest else wrong ts
expect_by p ts go other = wrong ts

unfoldable pub expect : {U : Type 0} → Punct → List Token → (List Token → Answer U) → Answer U
expect p ts go = expect_by p ts go (ahead ts)

-- this word
unfoldable pub expect_word_by : {U : Type 0} → List ℕ → List Token → (List Token → Answer U) → Ahead → Answer U
expect_word_by text ts go (word_ahead other at rest) = if bytes_eq text other then go rest else wrong ts
expect_word_by text ts go other = wrong ts

unfoldable pub expect_word : {U : Type 0} → List ℕ → List Token → (List Token → Answer U) → Answer U
expect_word text ts go = expect_word_by text ts go (ahead ts)

-- an identifier
unfoldable pub expect_identifier_by : {U : Type 0} → List Token → (List ℕ → List Token → Answer U) → Ahead → Answer U
expect_identifier_by ts go (word_ahead text at rest) = if is_identifier text then go text rest else wrong ts
expect_identifier_by ts go other = wrong ts

unfoldable pub expect_identifier : {U : Type 0} → List Token → (List ℕ → List Token → Answer U) → Answer U
expect_identifier ts go = expect_identifier_by ts go (ahead ts)
