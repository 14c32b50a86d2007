-- The tables that a checker is given.
use Rattle.std.specs.Prelude.{◌≡◌, ◌≤◌, List}
use Rattle.c_lexer.specs.declared.token.Token.{Token}
use Rattle.c_syntax.specs.declared.syntax.SynNode.{SynNode}
use Rattle.c_syntax.specs.Tables.{table_of}
use Rattle.c_syntax.specs.Trees.{Tree, height, max_height}
use Rattle.c_grammar.specs.Derivation.{IsTreeOf}

-- the table is that of a tree which some tokens derive, no higher than the limit
pub record IsCheckable (table : List SynNode) : Type 0 where
  pub of : Tree
  pub tokens : List Token
  pub derived : IsTreeOf tokens of
  pub whole : table ≡ table_of of
  pub low : height of ≤ max_height
