-- `case`, its value and its colon.
use Rattle.std.proofs.Common.{◌∙◌, ◌<◌, [], length, refl, arith}
use Rattle.std.specs.Prelude.{⊤}
use Rattle.c_lexer.specs.declared.token.Punct.TheVariants.{Colon}
use Rattle.c_syntax.specs.declared.kind.SynKind.TheVariants as kind
use Rattle.c_parser.specs.Gives.{itself, nothing_more}
use Rattle.c_parser.proofs.Stopping.{gives_stop, barred, found_then, passed, stops_before}
use Rattle.c_parser.proofs.Tokens.{shorter_behind}
use Rattle.c_parser.proofs.Made.{one_made, read_from, read_on}
use Rattle.c_parser.proofs.Spans.{mark_stops}
use Rattle.c_parser.proofs.SwitchLaws.{case_entered}
use Rattle.c_parser.proofs.parser.Parser.case_label.Goals as goal

pub returns-in_err-lower : goal.returns-in_err-lower
returns-in_err-lower c = gives_stop itself nothing_more _ _ _ _ _ _ _ c.in_err-lower.field-0.0 c.from_residual.ensures (
    barred 1 c.args.budget _ _ _ c.in_err-lower.field-0.0 c.in_err-lower.ensures.lower c.in_err-lower.ensures.rest)

pub returns-in_err-value : goal.returns-in_err-value
returns-in_err-value c = gives_stop itself nothing_more _ _ _ _ _ _ _ c.in_err-value.field-0.0 c.from_residual-in_err-value.ensures (
    stops_before _ _ _ _ c.in_err-value.field-0.0
    (case_entered c.args.budget c.in_ok-lower.lower c.in_ok-lower.ensures.lower c.args.start c.args.self.now c.enter.new.self c.in_ok-lower.ensures.kept c.in_ok-lower.ensures.rest) c.in_err-value.ensures)

pub returns-in_err-expect : goal.returns-in_err-expect
returns-in_err-expect c =
    let x = c.in_ok-value.ensures in
    gives_stop itself nothing_more _ _ _ _ _ _ _ c.in_err-expect.field-0.0 c.from_residual-in_err-expect.ensures (
    mark_stops _ Colon c.conditional.new.self c.expect.new.self _ _
    (case_entered c.args.budget c.in_ok-lower.lower c.in_ok-lower.ensures.lower c.args.start c.args.self.now c.enter.new.self c.in_ok-lower.ensures.kept c.in_ok-lower.ensures.rest
    ∙ found_then _ _ x.tree _ x.found_is) c.in_err-expect.ensures)

pub returns : goal.returns
returns c =
    let entered = c.in_ok-lower.ensures in
    let close = c.in_ok-expect.ensures in
    let x = read_from _ _ _ _ c.args.self.now c.enter.new.self c.conditional.new.self _ entered.kept c.in_ok-value.ensures in
    let behind = shorter_behind c.args.self.now.rest.now c.enter.new.self.rest.now c.conditional.new.self.rest.now entered.rest x.shorter in
    let shorter : length c.expect.new.self.rest.now < length c.args.self.now.rest.now = let b = close.shorter in omega (arith, behind, b) in
    one_made kind.Case [] c.args.start refl (λ t. ⊤) _ c.args.budget c.in_ok-lower.lower (length c.args.self.now.rest.now) entered.lower.next
    c.args.self.now.names x.tree _ c.in_ok-value.value c.expect.new.self _ c.above.result
    (read_on c.args.self.now.names x.tree _ _ c.conditional.new.self c.expect.new.self close.kept x.read) x.low refl
    shorter
    c.above.ensures.tree
    (case_entered c.args.budget c.in_ok-lower.lower entered.lower c.args.start c.args.self.now c.enter.new.self entered.kept entered.rest
    ∙ found_then _ _ x.tree _ x.found_is ∙ passed Colon c.conditional.new.self c.expect.new.self _ close) tt
