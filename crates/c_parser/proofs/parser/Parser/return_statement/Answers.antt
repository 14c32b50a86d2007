-- `return`.
use Rattle.std.proofs.Common.{Ok, false, [], length, refl, sym, ap, ◌∙◌, arith, ◌≡◌, ◌<◌}
use Rattle.c_lexer.specs.declared.token.Punct.TheVariants.{Semicolon}
use Rattle.c_syntax.specs.declared.kind.SynKind.TheVariants as kind
use Rattle.c_syntax.specs.Trees.{none, plain_node}
use Rattle.c_grammar.specs.Derivation.{ends_open}
use Rattle.c_grammar.specs.Answers.{found}
use Rattle.c_grammar.specs.Reading.{Goal, below, goal_in}
use Rattle.c_parts.specs.Says.{IsStatement}
use Rattle.c_parser.proofs.Stopping.{gives_stop, barred, passed, part_found, part_stops}
use Rattle.c_parser.proofs.Tokens.{some_shorter, shorter_behind, behind_one_shorter}
use Rattle.c_parser.proofs.Made.{one_made, keeps_then, read_from, read_on}
use Rattle.c_parser.proofs.Spans.{leaf_statement, mark_stops, statement_read}
use Rattle.c_parser.proofs.StatementLaws.{return_inside, return_empty, return_value}
use Rattle.c_parser.proofs.parser.Parser.return_statement.Goals as goal

pub returns-in_err-lower : goal.returns-in_err-lower
returns-in_err-lower c = gives_stop (λ s. s.part) IsStatement _ _ _ _ _ _ _ c.in_err-lower.field-0.0 c.from_residual.ensures (
    barred 0 c.args.budget _ _ _ c.in_err-lower.field-0.0 c.in_err-lower.ensures.lower c.in_err-lower.ensures.rest)

pub returns-then-at_mark : goal.returns-then-at_mark
returns-then-at_mark c =
    let entered = c.in_ok-lower.ensures in
    leaf_statement kind.Return c.args.start refl refl _ c.args.budget (length c.args.self.now.rest.now) c.args.self.now c.advance.new.self _ c.in_ok-leaf.field-0 c.closed.result
    c.closed.ensures (keeps_then c.args.self.now c.enter.new.self c.advance.new.self entered.kept c.advance.ensures.kept) c.in_ok-leaf.ensures.tree refl
    (return_inside c.args.budget c.in_ok-lower.lower entered.lower (below c.args.budget) c.args.self.now.names c.args.start c.args.self.now.rest.now c.enter.new.self.rest.now entered.rest
    ∙ return_empty c.args.budget (below c.args.budget) c.args.self.now.names c.args.start c.enter.new.self.rest.now (sym c.at_mark.ensures ∙ c.if-at_mark.true)
    ∙ ap (found (plain_node kind.Return c.args.start none)) (sym c.advance.ensures.rest))
    entered.lower.fits
    (let a = some_shorter c.args.self.now.rest.now c.enter.new.self.rest.now entered.rest c.requires in let b = behind_one_shorter c.enter.new.self.rest.now in
    let d = ap length c.advance.ensures.rest in omega (arith, a, b, d))

pub returns-in_err-value : goal.returns-in_err-value
unfolding goal_in
returns-in_err-value c =
    let entered = c.in_ok-lower.ensures in
    gives_stop (λ s. s.part) IsStatement _ _ _ _ _ _ _ c.in_err-value.field-0.0 c.from_residual-in_err-value.ensures (
    part_stops _ 0 c.args.budget c.in_ok-lower.lower entered.lower Goal.expression c.args.self.now.names c.enter.new.self.names c.enter.new.self.rest.now c.enter.new.self.rest.now _
    (return_inside c.args.budget c.in_ok-lower.lower entered.lower (below c.args.budget) c.args.self.now.names c.args.start c.args.self.now.rest.now c.enter.new.self.rest.now entered.rest
    ∙ return_value c.args.budget (below c.args.budget) c.args.self.now.names c.args.start c.enter.new.self.rest.now (sym c.at_mark.ensures ∙ c.if-at_mark.false))
    entered.kept.names_are refl _ c.in_err-value.field-0.0 c.in_err-value.ensures)

pub returns-in_err-expect : goal.returns-in_err-expect
unfolding goal_in
returns-in_err-expect c =
    let entered = c.in_ok-lower.ensures in
    let x = c.in_ok-value.ensures in
    gives_stop (λ s. s.part) IsStatement _ _ _ _ _ _ _ c.in_err-expect.field-0.0 c.from_residual-in_err-expect.ensures (
    mark_stops _ Semicolon c.expression.new.self c.expect.new.self _ _ (
    part_found _ 0 c.args.budget c.in_ok-lower.lower entered.lower Goal.expression c.args.self.now.names c.enter.new.self.names c.enter.new.self.rest.now c.enter.new.self.rest.now _
    (return_inside c.args.budget c.in_ok-lower.lower entered.lower (below c.args.budget) c.args.self.now.names c.args.start c.args.self.now.rest.now c.enter.new.self.rest.now entered.rest
    ∙ return_value c.args.budget (below c.args.budget) c.args.self.now.names c.args.start c.enter.new.self.rest.now (sym c.at_mark.ensures ∙ c.if-at_mark.false))
    entered.kept.names_are refl x.tree _ x.found_is) c.in_err-expect.ensures)

pub returns : goal.returns
unfolding goal_in
returns c =
    let entered = c.in_ok-lower.ensures in
    let close = c.in_ok-expect.ensures in
    let x = read_from _ _ _ _ c.args.self.now c.enter.new.self c.expression.new.self _ entered.kept c.in_ok-value.ensures in
    let behind = shorter_behind c.args.self.now.rest.now c.enter.new.self.rest.now c.expression.new.self.rest.now entered.rest x.shorter in
    let shorter : length c.expect.new.self.rest.now < length c.args.self.now.rest.now = let b = close.shorter in omega (arith, behind, b) in
    statement_read _ _ _ _ _ _ c.in_ok-part.part false c.closed-2.result c.closed-2.ensures (
    one_made kind.Return [] c.args.start refl (λ t. false ≡ ends_open t) _ c.args.budget c.in_ok-lower.lower (length c.args.self.now.rest.now) entered.lower.next
    c.args.self.now.names x.tree _ c.in_ok-value.value c.expect.new.self _ (Ok c.in_ok-part.part)
    (read_on c.args.self.now.names x.tree _ _ c.expression.new.self c.expect.new.self close.kept x.read) x.low refl
    shorter
    c.in_ok-part.ensures.tree
    (part_found _ 0 c.args.budget c.in_ok-lower.lower entered.lower Goal.expression c.args.self.now.names c.enter.new.self.names c.enter.new.self.rest.now c.enter.new.self.rest.now _
    (return_inside c.args.budget c.in_ok-lower.lower entered.lower (below c.args.budget) c.args.self.now.names c.args.start c.args.self.now.rest.now c.enter.new.self.rest.now entered.rest
    ∙ return_value c.args.budget (below c.args.budget) c.args.self.now.names c.args.start c.enter.new.self.rest.now (sym c.at_mark.ensures ∙ c.if-at_mark.false))
    entered.kept.names_are refl x.tree _ x.found_is ∙ passed Semicolon c.expression.new.self c.expect.new.self _ close) refl)
