use Rattle.std.proofs.Common.{◌∙◌, sym}
use Rattle.c_lexer.proofs.Characters.{is_other}
use Rattle.c_lexer.proofs.TokensAt.{mark_found, mark_missing}
use Rattle.c_lexer.proofs.piece.token_at.Goals as goal

pub returns-in-Some-mark_at-clause-found : goal.returns-in-Some-mark_at-clause-found
returns-in-Some-mark_at-clause-found c =
    let m = c.in-Some-mark_at.ensures in
    mark_found c.args.text.now c.in-Some.rest.now c.in-Some.first.now c.in-Some-mark_at.size c.in-Some-mark_at.mark c.in-Some.ensures.cases.0
    (sym c.is_nondigit.ensures ∙ c.if-is_nondigit.false) (is_other c.in-Some.first.now 39 c.if-first-eq39.false) (is_other c.in-Some.first.now 34 c.if-first-eq34.false) (sym c.begins_number.ensures ∙ c.if-begins_number.false)
    m.found.0 m.found.1 m.found.2 m.longest

pub returns-in-None-clause-none : goal.returns-in-None-clause-none
returns-in-None-clause-none c =
    mark_missing c.args.text.now c.in-Some.rest.now c.in-Some.first.now c.in-Some.ensures.cases.0
    (sym c.is_nondigit.ensures ∙ c.if-is_nondigit.false) (is_other c.in-Some.first.now 39 c.if-first-eq39.false) (is_other c.in-Some.first.now 34 c.if-first-eq34.false) (sym c.begins_number.ensures ∙ c.if-begins_number.false)
    c.in-None.ensures.none
