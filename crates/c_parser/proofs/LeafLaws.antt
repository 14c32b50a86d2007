-- What a primary expression reads by its first token: a name, a constant, a string, parentheses.
use Rattle.std.proofs.Common.{◌≡◌, ◌≢◌, ℕ, true, false, List, [], ◌∷◌, if◌then◌else◌, refl, sym, ap, ◌∙◌}
use Rattle.c_lexer.specs.declared.token.Token.{Token}
use Rattle.c_lexer.specs.declared.token.IntType.{IntType}
use Rattle.c_lexer.specs.declared.token.Punct.{Punct}
use Rattle.c_lexer.specs.declared.token.Punct.TheVariants.{LeftParenthesis, RightParenthesis}
use Rattle.c_lexer.specs.declared.token.TokenKind.TheVariants as token
use Rattle.c_syntax.specs.declared.kind.SynKind.TheVariants as kind
use Rattle.c_syntax.specs.Trees.{none, one, text_node, plain_node, string_node}
use Rattle.c_grammar.specs.Scopes.{Names}
use Rattle.c_grammar.specs.Vocabulary.{Place, mark, word, string}
use Rattle.c_grammar.specs.Answers.{found, wrong, and_then, fit, mark_ahead, ahead, ahead_by, expect}
use Rattle.c_grammar.specs.Reading.{Reader, Goal, behind_one, primary_by, is_variable, joined_behind}
use Rattle.c_parser.specs.Steps.{primary_at, constant_at}
use Rattle.c_parser.proofs.Tokens.{place_of, mark_token, integer_token, character_token}
use Rattle.c_parser.proofs.ExpressionLaws.{ahead_mark}

-- ---- a name

module _ (d : ℕ) (r : Reader) (names : Names) (ts : List Token) (text : List ℕ) (at : Place) (first : ts ≡ word text at ∷ behind_one ts) where
  name_shape : primary_at d r names ts
      ≡ (if is_variable names text then fit 1 d (behind_one ts) (found (text_node kind.Var text at.start none) (behind_one ts)) else wrong (word text at ∷ behind_one ts))
  unfolding ahead ahead_by primary_by
  name_shape = ap (λ us. primary_at d r names us) first

  pub variable_shape : is_variable names text ≡ true → primary_at d r names ts ≡ fit 1 d (behind_one ts) (found (text_node kind.Var text at.start none) (behind_one ts))
  variable_shape e = name_shape ∙ ap (λ b. if b then fit 1 d (behind_one ts) (found (text_node kind.Var text at.start none) (behind_one ts)) else wrong (word text at ∷ behind_one ts)) e

  pub no_variable : is_variable names text ≡ false → primary_at d r names ts ≡ wrong ts
  no_variable e = name_shape ∙ ap (λ b. if b then fit 1 d (behind_one ts) (found (text_node kind.Var text at.start none) (behind_one ts)) else wrong (word text at ∷ behind_one ts)) e ∙ ap wrong (sym first)

-- ---- a string, with those next to it

pub string_shape : (d : ℕ) (r : Reader) (names : Names) (ts : List Token) (first : List ℕ) (at : Place) → ts ≡ string first at ∷ behind_one ts
    → primary_at d r names ts ≡ fit 1 d (behind_one ts) (found (string_node (joined_behind first (behind_one ts)).0 at.start) (joined_behind first (behind_one ts)).1)
unfolding ahead ahead_by primary_by
string_shape d r names ts first at e = ap (λ us. primary_at d r names us) e

-- ---- nothing, a number, a character, another mark

module _ (d : ℕ) (r : Reader) (names : Names) (ts : List Token) where
  pub nothing_primary : ts ≡ [] → primary_at d r names ts ≡ wrong ts
  unfolding ahead primary_by
  nothing_primary e = ap (λ us. primary_by d r names ts (ahead us)) e

  pub number_primary : (t : Token) (value : ℕ) (type : IntType) → ts ≡ t ∷ behind_one ts → t.kind ≡ token.Int value type → primary_at d r names ts ≡ constant_at d (kind.Int type) value t.start names ts
  unfolding ahead ahead_by primary_by
  number_primary t value type e k = ap (λ us. primary_by d r names ts (ahead us)) (integer_token ts t value type e k)

  pub character_primary : (t : Token) (value : ℕ) → ts ≡ t ∷ behind_one ts → t.kind ≡ token.Char value → primary_at d r names ts ≡ constant_at d kind.Char value t.start names ts
  unfolding ahead ahead_by primary_by
  character_primary t value e k = ap (λ us. primary_by d r names ts (ahead us)) (character_token ts t value e k)

  other_mark : (p : Punct) (at : Place) → p ≢ LeftParenthesis → primary_by d r names ts (mark_ahead p at (behind_one ts)) ≡ wrong ts
  unfolding primary_by
  other_mark LeftParenthesis at n = absurd (n refl)
  other_mark p at n = refl

  pub mark_primary : (t : Token) (p : Punct) → ts ≡ t ∷ behind_one ts → t.kind ≡ token.Punct p → p ≢ LeftParenthesis → primary_at d r names ts ≡ wrong ts
  mark_primary t p e k n = ap (primary_by d r names ts) (ahead_mark p ts (place_of t) (mark_token ts t p e k)) ∙ other_mark p (place_of t) n

  pub parenthesized_shape : (at : Place) (start : ℕ) → ts ≡ mark LeftParenthesis at ∷ behind_one ts → start ≡ at.start → primary_at d r names ts
      ≡ fit 2 d (behind_one ts) (and_then (r.tree_of Goal.expression names (behind_one ts)) (λ x behind. expect RightParenthesis behind (λ end. found (plain_node kind.Paren start (one x)) end)))
  unfolding primary_by
  parenthesized_shape at start e same =
      ap (primary_by d r names ts) (ahead_mark LeftParenthesis ts at e)
      ∙ ap (λ n. fit 2 d (behind_one ts) (and_then (r.tree_of Goal.expression names (behind_one ts)) (λ x behind. expect RightParenthesis behind (λ end. found (plain_node kind.Paren n (one x)) end)))) (sym same)
