-- `break` and `continue`.
use Rattle.std.proofs.Common.{length, refl, ◌∙◌}
use Rattle.c_lexer.specs.declared.token.Punct.TheVariants.{Semicolon}
use Rattle.c_parts.specs.Says.{IsStatement}
use Rattle.c_parser.proofs.Stopping.{gives_stop, barred, passed}
use Rattle.c_parser.proofs.Tokens.{shorter_behind}
use Rattle.c_parser.proofs.Made.{keeps_then}
use Rattle.c_parser.proofs.Spans.{leaf_statement, mark_stops}
use Rattle.c_parser.proofs.StatementLaws.{jump_inside, jump_quiet, jump_closed}
use Rattle.c_parser.proofs.parser.Parser.jump.Goals as goal

pub returns-in_err-enter : goal.returns-in_err-enter
returns-in_err-enter c = gives_stop (λ s. s.part) IsStatement _ _ _ _ _ _ _ c.in_err-enter.field-0.0 c.from_residual.ensures (
    barred 0 c.args.budget _ _ _ c.in_err-enter.field-0.0 c.in_err-enter.ensures.lower c.in_err-enter.ensures.rest)

pub returns-in_err-expect : goal.returns-in_err-expect
returns-in_err-expect c = gives_stop (λ s. s.part) IsStatement _ _ _ _ _ _ _ c.in_err-expect.field-0.0 c.from_residual-in_err-expect.ensures (
    mark_stops _ Semicolon c.enter.new.self c.expect.new.self _ _
    (jump_inside c.args.budget c.in_ok-enter.field-0 c.in_ok-enter.ensures.lower c.args.kind c.args.self.now.names c.args.start c.args.self.now.rest.now c.enter.new.self.rest.now
    c.in_ok-enter.ensures.rest) c.in_err-expect.ensures)

pub returns : goal.returns
returns c =
    let entered = c.in_ok-enter.ensures in
    let close = c.in_ok-expect.ensures in
    leaf_statement c.args.kind c.args.start (jump_quiet c.args.kind c.requires.jump) (jump_closed c.args.kind c.args.start c.requires.jump) _ c.args.budget (length c.args.self.now.rest.now)
    c.args.self.now c.expect.new.self _ c.in_ok-leaf.field-0 c.closed.result c.closed.ensures (keeps_then c.args.self.now c.enter.new.self c.expect.new.self entered.kept close.kept)
    c.in_ok-leaf.ensures.tree refl
    (jump_inside c.args.budget c.in_ok-enter.field-0 entered.lower c.args.kind c.args.self.now.names c.args.start c.args.self.now.rest.now c.enter.new.self.rest.now entered.rest
    ∙ passed Semicolon c.enter.new.self c.expect.new.self _ close)
    entered.lower.fits (shorter_behind c.args.self.now.rest.now c.enter.new.self.rest.now c.expect.new.self.rest.now entered.rest close.shorter)
