-- The condition of a `do`.
use Rattle.std.proofs.Common.{◌∙◌, arith, codes}
use Rattle.c_lexer.specs.declared.token.Punct.TheVariants.{Semicolon}
use Rattle.c_grammar.specs.Reading.{below, level}
use Rattle.c_parser.specs.Gives.{itself, nothing_more}
use Rattle.c_parser.proofs.Stopping.{gives_stop, found_then, passed, stops_before, balked_word}
use Rattle.c_parser.proofs.Spans.{inner_read, mark_stops}
use Rattle.c_parser.proofs.StatementLaws.{do_go, do_inside}
use Rattle.c_parser.proofs.parser.Parser.do_condition.Goals as goal

pub returns-in_err-expect_word : goal.returns-in_err-expect_word
returns-in_err-expect_word c = gives_stop itself nothing_more _ _ _ _ _ _ _ c.in_err-expect_word.field-0.0 c.from_residual.ensures (
    balked_word (codes "while") c.args.self.now c.expect_word.new.self (do_go (level c.args.budget (below c.args.budget)) c.args.self.now.names) _ c.in_err-expect_word.ensures)

pub returns-in_err-condition : goal.returns-in_err-condition
returns-in_err-condition c = gives_stop itself nothing_more _ _ _ _ _ _ _ c.in_err-condition.field-0.0 c.from_residual-in_err-condition.ensures (
    stops_before _ _ _ _ _ (do_inside (level c.args.budget (below c.args.budget)) c.args.self.now c.expect_word.new.self c.in_ok-expect_word.ensures) c.in_err-condition.ensures)

pub returns-in_err-expect : goal.returns-in_err-expect
returns-in_err-expect c =
    let x = c.in_ok-condition.ensures in
    gives_stop itself nothing_more _ _ _ _ _ _ _ c.in_err-expect.field-0.0 c.from_residual-in_err-expect.ensures (
    mark_stops _ Semicolon c.condition.new.self c.expect.new.self _ _
    (do_inside (level c.args.budget (below c.args.budget)) c.args.self.now c.expect_word.new.self c.in_ok-expect_word.ensures ∙ found_then _ _ x.tree _ x.found_is) c.in_err-expect.ensures)

pub returns : goal.returns
returns c =
    let x = c.in_ok-condition.ensures in
    let opens = c.in_ok-expect_word.ensures in
    let close = c.in_ok-expect.ensures in
    inner_read _ _ _ _ _ _ c.args.self.now c.expect_word.new.self c.condition.new.self c.expect.new.self _ opens.kept x close.kept
    (do_inside (level c.args.budget (below c.args.budget)) c.args.self.now c.expect_word.new.self opens ∙ found_then _ _ x.tree _ x.found_is
    ∙ passed Semicolon c.condition.new.self c.expect.new.self _ close)
    (let a = opens.shorter in let b = x.shorter in let d = close.shorter in omega (arith, a, b, d))
