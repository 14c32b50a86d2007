use Rattle.c_parser.proofs.Tokens.{some_string}
use Rattle.c_parser.proofs.parser.Parser.string_ahead.Goals as goal

pub returns-in-Str-clause-some : goal.returns-in-Str-clause-some
returns-in-Str-clause-some c = some_string _ _ _ c.in_ok-token.ensures.some c.in-Str.is
