-- What the parser answers of a list of tokens.
use Rattle.std.specs.Prelude.{◌≡◌, ℕ, ◌+◌, ◌<◌, ◌≤◌, List, ◌++◌, length, take}
use Rattle.c_lexer.specs.declared.token.Token.{Token}
use Rattle.c_syntax.specs.declared.syntax.SynNode.{SynNode}
use Rattle.c_syntax.specs.Tables.{table_of}
use Rattle.c_syntax.specs.Trees.{Tree, height, max_height}
use Rattle.c_grammar.specs.Derivation.{IsTreeOf}

-- the tokens have a tree with this table, and it is no higher than that
pub record HasTable (tokens : List Token) (table : List SynNode) : Type 0 where
  pub tree : Tree
  pub whole : table ≡ table_of tree
  pub derived : IsTreeOf tokens tree
  pub low : height tree ≤ max_height

-- the tokens have no tree of any height; and where a token has this number, no list that begins with the tokens up to it,
-- it included, has one
pub record IsWrong (tokens : List Token) (at : ℕ) : Type 0 where
  pub within : at ≤ length tokens
  pub no_tree : (t : Tree) → IsTreeOf tokens t → ⊥
  pub no_list : at < length tokens → (other : List Token) (t : Tree) → IsTreeOf (take (at + 1) tokens ++ other) t → ⊥

-- so many tokens begin lists that have trees, and all these are too high
pub record IsTooDeep (tokens : List Token) (at : ℕ) : Type 0 where
  pub within : at ≤ length tokens
  pub higher : (other : List Token) (t : Tree) → IsTreeOf (take at tokens ++ other) t → max_height < height t
  pub some_tree : (other : List Token) × (t : Tree) × IsTreeOf (take at tokens ++ other) t
