use Rattle.std.proofs.Common.{sym, subst}
use Rattle.c_lexer.specs.Readings.{Begins}
use Rattle.c_lexer.proofs.Characters.{begins_plain, is_other}
use Rattle.c_lexer.proofs.literal.character.Goals as goal

pub returns-else-first-eq92-clause-found : goal.returns-else-first-eq92-clause-found
returns-else-first-eq92-clause-found c =
    subst (λ t. Begins t c.in_ok-first.first.now c.in_ok-first.rest.now) (sym c.in_ok-first.ensures.cases.0) (begins_plain c.in_ok-first.first.now c.in_ok-first.rest.now (is_other c.in_ok-first.first.now 92 c.if-first-eq92.false))
