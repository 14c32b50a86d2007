use Rattle.std.proofs.Common.{sym, ap, ◌∙◌, subst, take, drop}
use Rattle.std.specs.Prelude.{IfSome, IfNone}
use Rattle.c_lexer.specs.Spellings.{IsLongest, IsToken}
use Rattle.c_lexer.specs.Tokens.{token, begins_comment}
use Rattle.c_lexer.specs.Readings.{IsBlankPiece, IsTokenAt, HasNoToken}
use Rattle.c_lexer.proofs.Blanks.{piece_of_blank, no_piece}
use Rattle.c_lexer.proofs.piece.piece_at.Goals as goal

pub returns-in-Some-clause-found : goal.returns-in-Some-clause-found
returns-in-Some-clause-found c =
    piece_of_blank c.args.bytes.now c.args.at c.in-Some.size
    (subst (λ b. IsBlankPiece b (drop c.args.at c.args.bytes.now) c.in-Some.size) c.split_at.ensures.front (subst (λ t. IsBlankPiece c.split_at.result.0.now t c.in-Some.size) c.split_at.ensures.back c.in-Some.ensures.found))

pub returns-then-begins_comment-clause-none : goal.returns-then-begins_comment-clause-none
returns-then-begins_comment-clause-none c =
    no_piece c.args.bytes.now c.args.at
    (λ n p. c.in_default.ensures.none n (subst (λ b. IsBlankPiece b c.split_at.result.1.now n) (sym c.split_at.ensures.front) (subst (λ t. IsBlankPiece (take c.args.at c.args.bytes.now) t n) (sym c.split_at.ensures.back) p)))
    (λ n k g l t. absurd (cc (sym g ∙ ap begins_comment (sym c.split_at.ensures.back) ∙ sym c.begins_comment.ensures ∙ c.if-begins_comment.true)))

pub returns-in-Some-2-clause-found : goal.returns-in-Some-2-clause-found
returns-in-Some-2-clause-found c =
    let found = subst (λ o. IfSome o (λ t. IsTokenAt c.split_at.result.1.now t.0 t.1)) c.in-Some-2.is c.in_ok-size.ensures.found in
    let here = subst (λ t. IsTokenAt t c.in-Some-2.size c.in-Some-2.kind) c.split_at.ensures.back found in
    token c.in-Some-2.size c.in-Some-2.kind (ap begins_comment (sym c.split_at.ensures.back) ∙ sym c.begins_comment.ensures ∙ c.if-begins_comment.false) here.longest here.token

pub returns-in-None-clause-none : goal.returns-in-None-clause-none
returns-in-None-clause-none c =
    let none = subst (λ o. IfNone o (HasNoToken c.split_at.result.1.now)) c.in-None.is c.in_ok-size.ensures.none in
    no_piece c.args.bytes.now c.args.at
    (λ n p. c.in_default.ensures.none n (subst (λ b. IsBlankPiece b c.split_at.result.1.now n) (sym c.split_at.ensures.front) (subst (λ t. IsBlankPiece (take c.args.at c.args.bytes.now) t n) (sym c.split_at.ensures.back) p)))
    (λ n k g l t. none n k (subst (λ x. IsLongest x n) (sym c.split_at.ensures.back) l) (subst (λ x. IsToken (take n x) k) (sym c.split_at.ensures.back) t))
