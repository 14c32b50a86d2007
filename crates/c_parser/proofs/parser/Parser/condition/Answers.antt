-- An expression in parentheses.
use Rattle.std.proofs.Common.{◌∙◌, arith}
use Rattle.c_lexer.specs.declared.token.Punct.TheVariants.{LeftParenthesis, RightParenthesis}
use Rattle.c_parser.specs.Gives.{itself, nothing_more}
use Rattle.c_parser.proofs.Stopping.{gives_stop, found_then, passed, stops_before}
use Rattle.c_parser.proofs.Spans.{inner_read, mark_stops}
use Rattle.c_parser.proofs.StatementLaws.{condition_go, condition_open, condition_inside}
use Rattle.c_parser.proofs.parser.Parser.condition.Goals as goal

pub returns-in_err-expect : goal.returns-in_err-expect
returns-in_err-expect c = gives_stop itself nothing_more _ _ _ _ _ _ _ c.in_err-expect.field-0.0 c.from_residual.ensures (
    mark_stops _ LeftParenthesis c.args.self.now c.expect.new.self (condition_go c.args.budget c.args.self.now.names) _ (condition_open c.args.budget _ _) c.in_err-expect.ensures)

pub returns-in_err-condition : goal.returns-in_err-condition
returns-in_err-condition c = gives_stop itself nothing_more _ _ _ _ _ _ _ c.in_err-condition.field-0.0 c.from_residual-in_err-condition.ensures (
    stops_before _ _ _ _ _ (condition_inside c.args.budget c.args.self.now c.expect.new.self c.in_ok-expect.ensures) c.in_err-condition.ensures)

pub returns-in_err-expect-2 : goal.returns-in_err-expect-2
returns-in_err-expect-2 c =
    let x = c.in_ok-condition.ensures in
    gives_stop itself nothing_more _ _ _ _ _ _ _ c.in_err-expect-2.field-0.0 c.from_residual-in_err-expect-2.ensures (
    mark_stops _ RightParenthesis c.expression.new.self c.expect-2.new.self _ _
    (condition_inside c.args.budget c.args.self.now c.expect.new.self c.in_ok-expect.ensures ∙ found_then _ _ x.tree _ x.found_is) c.in_err-expect-2.ensures)

pub returns : goal.returns
returns c =
    let x = c.in_ok-condition.ensures in
    let opens = c.in_ok-expect.ensures in
    let close = c.in_ok-expect-2.ensures in
    inner_read _ _ _ _ _ _ c.args.self.now c.expect.new.self c.expression.new.self c.expect-2.new.self _ opens.kept x close.kept
    (condition_inside c.args.budget c.args.self.now c.expect.new.self opens ∙ found_then _ _ x.tree _ x.found_is ∙ passed RightParenthesis c.expression.new.self c.expect-2.new.self _ close)
    (let a = opens.shorter in let b = x.shorter in let d = close.shorter in omega (arith, a, b, d))
