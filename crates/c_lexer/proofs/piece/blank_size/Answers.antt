use Rattle.std.proofs.Common.{◌∷◌, sym, ap, ◌∙◌}
use Rattle.c_lexer.proofs.Blanks.{skipped_is_blank, slash_is_none}
use Rattle.c_lexer.proofs.Characters.{if_none}
use Rattle.c_lexer.proofs.piece.blank_size.Goals as goal

pub returns-then-is_line_front-clause-found : goal.returns-then-is_line_front-clause-found
returns-then-is_line_front-clause-found c =
    skipped_is_blank c.args.before.now c.args.text.now c.in_ok-first.rest.now c.line_size.result
    (c.in_ok-first.ensures.cases.0 ∙ ap (λ b. b ∷ c.in_ok-first.rest.now) c.if-first-eq35.true) (sym c.is_line_front.ensures ∙ c.if-is_line_front.true) c.line_size.ensures.size

pub returns-then-first-eq47-clause-none : goal.returns-then-first-eq47-clause-none
returns-then-first-eq47-clause-none c =
    if_none c.comment_size.result _ _
    (slash_is_none c.args.before.now c.args.text.now c.in_ok-first.rest.now (c.in_ok-first.ensures.cases.0 ∙ ap (λ b. b ∷ c.in_ok-first.rest.now) c.if-first-eq47.true))
    c.comment_size.ensures.none
