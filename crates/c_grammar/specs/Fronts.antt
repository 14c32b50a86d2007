-- The tokens that a relation between a list of tokens and a rest of it takes from the front.
use Rattle.std.specs.Prelude.{◌≡◌, List, [], ◌∷◌, ◌++◌, Option, Some, None}
use Rattle.c_lexer.specs.declared.token.Token.{Token}

abbrev pub first : List Token → Option Token
first [] = None
first (t ∷ rest) = Some t

-- a is a front and then b, and R holds of that front before each rest that begins as b does
pub record IsFront (R : List Token → List Token → Type 0) (a b : List Token) : Type 0 where
  pub front : List Token
  pub split : a ≡ front ++ b
  pub moves : (c : List Token) → first c ≡ first b → R (front ++ c) c
