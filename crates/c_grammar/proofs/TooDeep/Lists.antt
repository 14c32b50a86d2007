-- Where arguments, a length, or an expression or nothing go too deep, the tokens before the place are completed.
use Rattle.std.proofs.Common.{ℕ, suc, ◌≤◌, List, [], length, ◌||◌}
use Rattle.c_lexer.specs.declared.token.Punct.TheVariants.{RightBracket, RightParenthesis, Semicolon}
use Rattle.c_lexer.specs.declared.token.Token.{Token}
use Rattle.c_grammar.specs.Scopes.{Names, after}
use Rattle.c_grammar.specs.Derivation as rule
use Rattle.c_grammar.specs.Derivation.{Derives, Lists}
use Rattle.c_grammar.specs.Reading.{Reader, begins_with_mark, listed, assignment_in, arguments_in, length_in, optional_expression_in}
use Rattle.c_grammar.proofs.SoundExpressions.{IsSound, assignment_sound}
use Rattle.c_grammar.proofs.FrontLaw.{front_of}
use Rattle.c_grammar.proofs.TooDeep.Steps.{Has, has, Cuts, cuts_found, cuts_if, cuts_any, cuts_last}
use Rattle.c_grammar.proofs.TooDeep.Parts.{HasCuts}
use Rattle.c_grammar.proofs.TooDeep.Rows.{listed_cuts}
use Rattle.c_grammar.proofs.TooDeep.Expressions.{cuts_part, conditional_cuts, assignment_cuts, expression_cuts}

module _ (d : ℕ) (r : Reader) (sound : IsSound d r) (cuts : HasCuts d r) where
  pub argument_list_cuts : (names : Names) (ts : List Token)
      → Cuts (Has (Lists names rule.argument_list)) ts (listed d r (assignment_in d r) after (suc (length ts)) names ts)
  argument_list_cuts names ts = listed_cuts d r
      (λ ns. Derives ns rule.assignment) (λ ns. Lists ns rule.argument_list) (assignment_in d r) after
      (assignment_cuts d r sound cuts)
      (assignment_sound d r sound)
      (λ ns a b t. front_of)
      (λ ns a b t. rule.last_argument)
      (λ ns a b c at t ts. rule.more_arguments)
      (suc (length ts)) names ts

  pub arguments_cuts : (names : Names) (ts : List Token) → Cuts (Has (Lists names rule.arguments)) ts (arguments_in d r names ts)
  unfolding arguments_in
  arguments_cuts names ts = cuts_if (begins_with_mark RightParenthesis ts)
      (λ e. cuts_found)
      (λ e. cuts_part {S = Lists names rule.argument_list} {S2 = Lists names rule.arguments} (λ a z t. rule.some_arguments) (argument_list_cuts names ts))

  pub length_cuts : (names : Names) (ts : List Token) → Cuts (Has (Lists names rule.optional_length)) ts (length_in d r names ts)
  unfolding length_in
  length_cuts names ts = cuts_if (begins_with_mark RightBracket ts)
      (λ e. cuts_found)
      (λ e. cuts_last {S = Derives names rule.conditional} (conditional_cuts d r sound cuts names ts)
      [] (λ z h. h) (λ z _ a t h. has _ (rule.a_length h))
      (λ x end. cuts_found))

  pub optional_expression_cuts : 1 ≤ d → (names : Names) (ts : List Token) → Cuts (Has (Derives names rule.optional_expression)) ts (optional_expression_in d r names ts)
  unfolding optional_expression_in
  optional_expression_cuts some names ts = cuts_if (begins_with_mark Semicolon ts || begins_with_mark RightParenthesis ts)
      (λ e. cuts_any d some cuts_found)
      (λ e. cuts_part {S = Derives names rule.expression} {S2 = Derives names rule.optional_expression} (λ a z t. rule.present) (expression_cuts d r sound cuts names ts))
