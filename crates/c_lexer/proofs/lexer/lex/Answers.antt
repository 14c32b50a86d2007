use Rattle.std.proofs.Common.{◌≡◌, ◌+◌, ◌<◌, ◌≤◌, sym, subst, arith, length, rules}
use Rattle.std.specs.Prelude.{IfSome, IfNone}
use Rattle.c_lexer.specs.Tokens.{Reaches, here, IsPiece, IsLexical}
use Rattle.c_lexer.specs.Readings.{HasNoPiece, tokens_of}
use Rattle.c_lexer.proofs.OneList.{one_list, piece_within, reach_within}
use Rattle.c_lexer.proofs.Steps.{Reaches-more, is_lexical}
use Rattle.c_lexer.proofs.lexer.lex.Goals as goal

pub loop-at-init : goal.loop-at-init
loop-at-init c = subst (Reaches c.args.bytes.now 0 0) (sym c.new-tokens.ensures) (here 0)

pub returns-in_default-clause-lexical : goal.returns-in_default-clause-lexical
returns-in_default-clause-lexical c = λ at e.
    let none = subst (λ o. IfNone o (HasNoPiece c.args.bytes.now c.loop-at.at)) c.in_default.is c.in_ok-piece.ensures.none in
    let same : c.loop-at.at ≡ at = cc e in
    subst (IsLexical c.args.bytes.now) same (is_lexical c.args.bytes.now c.loop-at.at c.loop-at.tokens (search rules) c.loop-at.invariant none)

pub overflow_add-end : goal.overflow_add-end
overflow_add-end c =
    let p = subst (λ o. IfSome o (λ p. IsPiece c.args.bytes.now c.loop-at.at p.size (tokens_of c.loop-at.at (c.loop-at.at + p.size) p.kind))) c.in-Some.is c.in_ok-piece.ensures.found in
    let lt : c.loop-at.at < length c.args.bytes.now = search rules in
    let within = piece_within c.args.bytes.now c.loop-at.at (omega (arith, lt)) c.in-Some.piece.size _ p in
    search rules

pub loop-at-preserved : goal.loop-at-preserved
loop-at-preserved c =
    let p = subst (λ o. IfSome o (λ p. IsPiece c.args.bytes.now c.loop-at.at p.size (tokens_of c.loop-at.at (c.loop-at.at + p.size) p.kind))) c.in-Some.is c.in_ok-piece.ensures.found in
    subst (Reaches c.args.bytes.now 0 (c.loop-at.at + c.in-Some.piece.size)) (sym c.in_ok-push_token.ensures) (Reaches-more c.args.bytes.now 0 c.loop-at.at c.in-Some.piece.size c.loop-at.tokens _ c.loop-at.invariant p)

pub returns-clause-found : goal.returns-clause-found
returns-clause-found c =
    let within = reach_within c.args.bytes.now 0 c.loop-at.at c.loop-at.tokens (omega arith) c.loop-at.invariant in
    let past : length c.args.bytes.now ≤ c.loop-at.at = search rules in
    let end : c.loop-at.at ≡ length c.args.bytes.now = omega (arith, within, past) in
    subst (λ n. Reaches c.args.bytes.now 0 n c.loop-at.tokens) end c.loop-at.invariant

pub returns-clause-only : goal.returns-clause-only
returns-clause-only c = λ other h.
    let within = reach_within c.args.bytes.now 0 c.loop-at.at c.loop-at.tokens (omega arith) c.loop-at.invariant in
    let past : length c.args.bytes.now ≤ c.loop-at.at = search rules in
    let end : c.loop-at.at ≡ length c.args.bytes.now = omega (arith, within, past) in
    one_list c.args.bytes.now other c.loop-at.tokens h (subst (λ n. Reaches c.args.bytes.now 0 n c.loop-at.tokens) end c.loop-at.invariant)
