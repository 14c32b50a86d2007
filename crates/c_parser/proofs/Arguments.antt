-- The arguments of a call, as a row that a loop reads.
use Rattle.std.proofs.Common.{◌≡◌, ℕ, suc, true, false, List, length}
use Rattle.c_lexer.specs.declared.token.Punct.TheVariants.{RightParenthesis}
use Rattle.c_lexer.specs.declared.token.Token.{Token}
use Rattle.c_syntax.specs.Trees.{none}
use Rattle.c_grammar.specs.Scopes.{Names, after}
use Rattle.c_grammar.specs.Answers.{found}
use Rattle.c_grammar.specs.Reading.{Reader, begins_with_mark, listed, assignment_in, arguments_in}
use Rattle.c_parser.proofs.Links.{when_true, when_false}

module _ (d : ℕ) (r : Reader) (names : Names) (ts : List Token) where
  pub arguments_listed : begins_with_mark RightParenthesis ts ≡ false → arguments_in d r names ts ≡ listed d r (assignment_in d r) after (suc (length ts)) names ts
  unfolding arguments_in
  arguments_listed e = when_false _ _ _ e

  pub no_arguments : begins_with_mark RightParenthesis ts ≡ true → arguments_in d r names ts ≡ found none ts
  unfolding arguments_in
  no_arguments e = when_true _ _ _ e
