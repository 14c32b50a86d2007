-- `;` alone.
use Rattle.std.proofs.Common.{length, refl}
use Rattle.c_syntax.specs.declared.kind.SynKind.TheVariants as kind
use Rattle.c_syntax.specs.Trees.{none, plain_node}
use Rattle.c_grammar.specs.Answers.{found}
use Rattle.c_parts.specs.Says.{IsStatement}
use Rattle.c_parser.proofs.Stopping.{gives_stop, barred}
use Rattle.c_parser.proofs.Tokens.{some_shorter}
use Rattle.c_parser.proofs.Spans.{leaf_statement, entered_at}
use Rattle.c_parser.proofs.parser.Parser.empty_statement.Goals as goal

pub returns-in_err-enter : goal.returns-in_err-enter
returns-in_err-enter c = gives_stop (λ s. s.part) IsStatement _ _ _ _ _ _ _ c.in_err-enter.field-0.0 c.from_residual.ensures (
    barred 0 c.args.budget _ _ _ c.in_err-enter.field-0.0 c.in_err-enter.ensures.lower c.in_err-enter.ensures.rest)

pub returns : goal.returns
returns c =
    let entered = c.in_ok-enter.ensures in
    leaf_statement kind.Empty c.args.start refl refl _ c.args.budget (length c.args.self.now.rest.now) c.args.self.now c.enter.new.self _ c.in_ok-leaf.field-0 c.closed.result
    c.closed.ensures entered.kept c.in_ok-leaf.ensures.tree refl
    (entered_at 0 c.args.budget c.in_ok-enter.field-0 entered.lower (found (plain_node kind.Empty c.args.start none)) c.args.self.now.rest.now c.enter.new.self.rest.now entered.rest)
    entered.lower.fits (some_shorter c.args.self.now.rest.now c.enter.new.self.rest.now entered.rest c.requires)
