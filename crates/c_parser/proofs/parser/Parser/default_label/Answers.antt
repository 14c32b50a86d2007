-- `default` and its colon.
use Rattle.std.proofs.Common.{◌∙◌, [], length, refl, sym}
use Rattle.std.specs.Prelude.{⊤}
use Rattle.c_lexer.specs.declared.token.Punct.TheVariants.{Colon}
use Rattle.c_syntax.specs.declared.kind.SynKind.TheVariants as kind
use Rattle.c_syntax.specs.Trees.{none, plain_node}
use Rattle.c_grammar.specs.Scopes.{after}
use Rattle.c_parts.proofs.NameLaws.{after_none}
use Rattle.c_parser.specs.Gives.{itself, nothing_more}
use Rattle.c_parser.proofs.Stopping.{gives_stop, barred, passed}
use Rattle.c_parser.proofs.Tokens.{shorter_behind}
use Rattle.c_parser.proofs.Made.{made, keeps_then, pushed_leaf}
use Rattle.c_parser.proofs.Spans.{mark_stops}
use Rattle.c_parser.proofs.SwitchLaws.{default_entered}
use Rattle.c_parser.proofs.parser.Parser.default_label.Goals as goal

pub returns-in_err-enter : goal.returns-in_err-enter
returns-in_err-enter c = gives_stop itself nothing_more _ _ _ _ _ _ _ c.in_err-enter.field-0.0 c.from_residual.ensures (
    barred 0 c.args.budget _ _ _ c.in_err-enter.field-0.0 c.in_err-enter.ensures.lower c.in_err-enter.ensures.rest)

pub returns-in_err-expect : goal.returns-in_err-expect
returns-in_err-expect c = gives_stop itself nothing_more _ _ _ _ _ _ _ c.in_err-expect.field-0.0 c.from_residual-in_err-expect.ensures (
    mark_stops _ Colon c.enter.new.self c.expect.new.self _ _
    (default_entered c.args.budget c.in_ok-enter.field-0 c.in_ok-enter.ensures.lower c.args.start c.args.self.now.names c.args.self.now.rest.now c.enter.new.self.rest.now
    c.in_ok-enter.ensures.rest) c.in_err-expect.ensures)

pub returns : goal.returns
returns c =
    let entered = c.in_ok-enter.ensures in
    let close = c.in_ok-expect.ensures in
    let kept = keeps_then c.args.self.now c.enter.new.self c.expect.new.self entered.kept close.kept in
    made (λ t. ⊤) _ (after c.args.self.now.names) (plain_node kind.Default c.args.start none) _ c.args.budget (length c.args.self.now.rest.now) _ c.leaf.result
    (pushed_leaf (plain_node kind.Default c.args.start none) c.args.self.now c.expect.new.self _ c.leaf.result kept c.leaf.ensures.tree)
    (default_entered c.args.budget c.in_ok-enter.field-0 entered.lower c.args.start c.args.self.now.names c.args.self.now.rest.now c.enter.new.self.rest.now entered.rest
    ∙ passed Colon c.enter.new.self c.expect.new.self _ close)
    (kept.names_are ∙ sym (after_none c.args.self.now.names kind.Default [] c.args.start refl)) tt entered.lower.fits
    (shorter_behind c.args.self.now.rest.now c.enter.new.self.rest.now c.expect.new.self.rest.now entered.rest close.shorter)
