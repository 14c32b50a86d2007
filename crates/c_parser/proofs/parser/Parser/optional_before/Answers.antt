-- An expression or nothing, and a mark.
use Rattle.std.proofs.Common.{◌∙◌, arith}
use Rattle.c_parser.specs.Gives.{itself, nothing_more}
use Rattle.c_parser.proofs.Stopping.{gives_stop, found_then, passed, stops_before}
use Rattle.c_parser.proofs.Made.{keeps_same}
use Rattle.c_parser.proofs.Spans.{inner_read, mark_stops}
use Rattle.c_parser.proofs.StatementLaws.{before_inside}
use Rattle.c_parser.proofs.parser.Parser.optional_before.Goals as goal

pub returns-in_err-expression : goal.returns-in_err-expression
returns-in_err-expression c = gives_stop itself nothing_more _ _ _ _ _ _ _ c.in_err-expression.field-0.0 c.from_residual.ensures (
    stops_before _ _ _ _ _ (before_inside c.args.budget c.args.mark c.args.self.now.names c.args.self.now.rest.now) c.in_err-expression.ensures)

pub returns-in_err-expect : goal.returns-in_err-expect
returns-in_err-expect c =
    let x = c.in_ok-expression.ensures in
    gives_stop itself nothing_more _ _ _ _ _ _ _ c.in_err-expect.field-0.0 c.from_residual-in_err-expect.ensures (
    mark_stops _ c.args.mark c.optional_expression.new.self c.expect.new.self _ _
    (before_inside c.args.budget c.args.mark c.args.self.now.names c.args.self.now.rest.now ∙ found_then _ _ x.tree _ x.found_is) c.in_err-expect.ensures)

pub returns : goal.returns
returns c =
    let x = c.in_ok-expression.ensures in
    let close = c.in_ok-expect.ensures in
    inner_read _ _ _ _ _ _ c.args.self.now c.args.self.now c.optional_expression.new.self c.expect.new.self _ (keeps_same c.args.self.now) x close.kept
    (before_inside c.args.budget c.args.mark c.args.self.now.names c.args.self.now.rest.now ∙ found_then _ _ x.tree _ x.found_is
    ∙ passed c.args.mark c.optional_expression.new.self c.expect.new.self _ close)
    (let b = x.shorter in let d = close.shorter in omega (arith, b, d))
