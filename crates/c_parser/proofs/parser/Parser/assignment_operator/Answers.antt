-- The mark of an assignment.
use Rattle.std.proofs.Common.{◌∙◌, sym}
use Rattle.c_parser.proofs.Tokens.{some_mark}
use Rattle.c_parser.proofs.parser.Parser.assignment_operator.Goals as goal

pub returns-in-Punct-clause-some : goal.returns-in-Punct-clause-some
returns-in-Punct-clause-some c = (sym c.is_assignment.ensures ∙ c.if-is_assignment.true, some_mark _ _ _ c.in_ok-token.ensures.some c.in-Punct.is)
