-- A binary operator ahead.
use Rattle.std.proofs.Common.{sym}
use Rattle.c_parser.proofs.Tokens.{some_mark}
use Rattle.c_parser.proofs.parser.Parser.operator.Goals as goal

pub returns-clause-some : goal.returns-clause-some
returns-clause-some c = (c.if-level-tightest.false, (c.if-level-loosest.false, (sym c.level_of-level.ensures, some_mark _ _ _ c.in_ok-token.ensures.some c.in-Punct.is)))
