-- An expression as a statement.
use Rattle.std.proofs.Common.{Ok, false, [], length, refl, sym, ap, ◌∙◌, arith, ◌≡◌, ◌<◌}
use Rattle.c_lexer.specs.declared.token.Punct.TheVariants.{Semicolon}
use Rattle.c_syntax.specs.declared.kind.SynKind.TheVariants as kind
use Rattle.c_syntax.specs.Trees.{one, plain_node}
use Rattle.c_grammar.specs.Derivation.{ends_open}
use Rattle.c_grammar.specs.Answers.{found}
use Rattle.c_parts.specs.Says.{IsStatement}
use Rattle.c_parser.proofs.Stopping.{gives_stop, passed, stops_before, found_then}
use Rattle.c_parser.proofs.Made.{one_made, read_on}
use Rattle.c_parser.proofs.Spans.{mark_stops, statement_read, within_next, some_height}
use Rattle.c_parser.proofs.StatementLaws.{statement_inside}
use Rattle.c_parser.proofs.parser.Parser.expression_statement.Goals as goal

pub returns-in_err-expression : goal.returns-in_err-expression
returns-in_err-expression c = gives_stop (λ s. s.part) IsStatement _ _ _ _ _ _ _ c.in_err-expression.field-0.0 c.from_residual.ensures (
    stops_before _ _ _ _ _ (statement_inside c.args.budget c.next_lower.result c.next_lower.ensures.none c.next_lower.ensures.lower c.args.self.now.names c.args.self.now.rest.now)
    c.in_err-expression.ensures)

pub returns-in_err-expect : goal.returns-in_err-expect
returns-in_err-expect c =
    let x = c.in_ok-expression.ensures in
    gives_stop (λ s. s.part) IsStatement _ _ _ _ _ _ _ c.in_err-expect.field-0.0 c.from_residual-in_err-expect.ensures (
    mark_stops _ Semicolon c.expression.new.self c.expect.new.self _ _
    (statement_inside c.args.budget c.next_lower.result c.next_lower.ensures.none c.next_lower.ensures.lower c.args.self.now.names c.args.self.now.rest.now
    ∙ found_then _ _ x.tree _ x.found_is) c.in_err-expect.ensures)

pub returns : goal.returns
returns c =
    let close = c.in_ok-expect.ensures in
    let x = c.in_ok-expression.ensures in
    let part = c.in_ok-expression.expression in
    let within = within_next c.args.budget c.next_lower.result part.height c.next_lower.ensures.none c.next_lower.ensures.less (some_height _ x.tree _ _ _ x.read) x.low in
    let shorter : length c.expect.new.self.rest.now < length c.args.self.now.rest.now = let a = x.shorter in let b = close.shorter in omega (arith, a, b) in
    statement_read _ _ _ _ _ _ c.in_ok-part.part false c.closed.result c.closed.ensures (
    one_made kind.ExprStmt [] part.start refl (λ t. false ≡ ends_open t) _ c.args.budget within.0 (length c.args.self.now.rest.now) within.1.0
    c.args.self.now.names x.tree _ part c.expect.new.self _ (Ok c.in_ok-part.part)
    (read_on c.args.self.now.names x.tree _ _ c.expression.new.self c.expect.new.self close.kept x.read) within.1.1 refl
    shorter
    c.in_ok-part.ensures.tree
    (statement_inside c.args.budget c.next_lower.result c.next_lower.ensures.none c.next_lower.ensures.lower c.args.self.now.names c.args.self.now.rest.now
    ∙ found_then _ _ x.tree _ x.found_is ∙ passed Semicolon c.expression.new.self c.expect.new.self _ close
    ∙ ap (λ n. found (plain_node kind.ExprStmt n (one x.tree)) c.expect.new.self.rest.now) (sym x.read.pushed.start_is)) refl)
