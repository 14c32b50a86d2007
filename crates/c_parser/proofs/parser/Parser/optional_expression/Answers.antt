-- An expression, or nothing.
use Rattle.std.proofs.Common.{◌≡◌, true, ◌||◌, refl, sym, ap, ◌∙◌, subst, arith, length}
use Rattle.std.specs.Prelude.{⊤, suc, []}
use Rattle.c_lexer.specs.declared.token.Punct.TheVariants.{Semicolon, RightParenthesis}
use Rattle.c_syntax.specs.declared.kind.SynKind.TheVariants as kind
use Rattle.c_syntax.specs.Trees.{none, plain_node}
use Rattle.c_syntax.specs.Tables.{stack_of}
use Rattle.c_grammar.specs.Scopes.{after}
use Rattle.c_grammar.specs.Reading.{below, begins_with_mark}
use Rattle.c_parts.proofs.NameLaws.{after_none}
use Rattle.c_parser.specs.Gives.{itself, nothing_more, Stops}
use Rattle.c_parser.proofs.Stopping.{gives_stop}
use Rattle.c_parser.proofs.PartLaws.{gives_wider}
use Rattle.c_parser.proofs.Made.{made}
use Rattle.c_parser.proofs.ExpressionLaws.{second_true, optional_some, optional_deep, optional_none}
use Rattle.c_parser.proofs.parser.Parser.optional_expression.Goals.{else-not-at_mark-via-then-not-at_mark+else-not-at_mark-2, else-not-at_mark-via-else-not-at_mark}
use Rattle.c_parser.proofs.parser.Parser.optional_expression.Goals as goal

pub returns-then-not-at_mark-2 : goal.returns-then-not-at_mark-2
returns-then-not-at_mark-2 c = gives_wider itself nothing_more nothing_more _ _ _ _ c.args.budget c.args.budget _ _ c.expression.new.self c.expression.result
    (optional_some c.args.budget (below c.args.budget) c.args.self.now.names c.args.self.now.rest.now (sym c.at_mark.ensures ∙ c.if-not-at_mark.true)
    (sym c.at_mark-then-not-at_mark.ensures ∙ c.if-not-at_mark-2.true))
    (omega arith) (omega arith) (λ t part said. tt) c.expression.ensures

pub returns-in_err-within : goal.returns-in_err-within
returns-in_err-within c =
    let ts = c.args.self.now.rest.now in
    let stopped = c.in_err-within.ensures in
    let ends : begins_with_mark Semicolon ts || begins_with_mark RightParenthesis ts ≡ true
    = elim c.else-not-at_mark.branch [
      | else-not-at_mark-via-then-not-at_mark+else-not-at_mark-2 w ↦ second_true _ _ (sym w.at_mark-then-not-at_mark.ensures ∙ w.if-not-at_mark-2.false)
      | else-not-at_mark-via-else-not-at_mark w ↦ ap (λ b. b || begins_with_mark RightParenthesis ts) (sym c.at_mark.ensures ∙ w.if-not-at_mark.false)
    ] in
    gives_stop itself _ _ _ _ _ _ _ _ c.in_err-within.field-0.0 c.from_residual.ensures (
    subst (Stops _ ts) (sym stopped.0) (optional_deep c.args.budget (below c.args.budget) c.args.self.now.names ts ends stopped.1))

pub returns : goal.returns
returns c =
    let ts = c.args.self.now.rest.now in
    let names = c.args.self.now.names in
    let start = c.start-start.result in
    let lowered = c.in_ok-within.ensures in
    let ends : begins_with_mark Semicolon ts || begins_with_mark RightParenthesis ts ≡ true
    = elim c.else-not-at_mark.branch [
      | else-not-at_mark-via-then-not-at_mark+else-not-at_mark-2 w ↦ second_true _ _ (sym w.at_mark-then-not-at_mark.ensures ∙ w.if-not-at_mark-2.false)
      | else-not-at_mark-via-else-not-at_mark w ↦ ap (λ b. b || begins_with_mark RightParenthesis ts) (sym c.at_mark.ensures ∙ w.if-not-at_mark.false)
    ] in
    made (λ t. ⊤) _ (after names) (plain_node kind.Empty start none) (stack_of c.args.self.now.trees) c.args.budget (suc (length ts)) _ c.leaf.result
    c.leaf.ensures.tree (optional_none c.args.budget (below c.args.budget) names ts ends c.in_ok-within.field-0 start lowered.next c.start-start.ensures)
    (sym (after_none names kind.Empty [] start refl)) tt (let f = lowered.fits in omega (arith, f)) (omega arith)
