use Rattle.std.proofs.Common.{refl, sym, ap, ◌∙◌, arith, length}
use Rattle.std.specs.Prelude.{⊤}
use Rattle.c_syntax.specs.declared.kind.SynKind.TheVariants as kind
use Rattle.c_syntax.specs.Trees.{none, text_node}
use Rattle.c_syntax.specs.Tables.{stack_of}
use Rattle.c_grammar.specs.Scopes.{after}
use Rattle.c_grammar.specs.Answers.{found}
use Rattle.c_grammar.specs.Reading.{below, behind_one}
use Rattle.c_parts.proofs.NameLaws.{after_none}
use Rattle.c_parser.specs.Gives.{itself, nothing_more}
use Rattle.c_parser.proofs.Stopping.{gives_stop, whole_barred, whole_entered}
use Rattle.c_parser.proofs.Tokens.{shorter_one}
use Rattle.c_parser.proofs.LeafLaws.{variable_shape, no_variable}
use Rattle.c_parser.proofs.Made.{made, pushed_leaf}
use Rattle.c_parser.proofs.parser.Parser.variable.Goals as goal

pub returns-then-not-is_variable : goal.returns-then-not-is_variable
returns-then-not-is_variable c = no_variable c.args.budget (below c.args.budget) c.args.self.now.names c.args.self.now.rest.now c.args.text.now c.requires.0 c.requires.1.0
    (sym c.is_variable.ensures ∙ c.if-not-is_variable.true)

pub returns-in_err-enter : goal.returns-in_err-enter
returns-in_err-enter c = gives_stop itself nothing_more _ _ _ _ _ _ _ c.in_err-enter.field-0.0 c.from_residual.ensures (
    whole_barred _ 0 c.args.budget 0 _ _ (variable_shape c.args.budget (below c.args.budget) c.args.self.now.names c.args.self.now.rest.now c.args.text.now c.requires.0 c.requires.1.0
    (sym c.is_variable.ensures ∙ c.if-not-is_variable.false)) _ c.in_err-enter.field-0.0 c.in_err-enter.ensures.lower c.in_err-enter.ensures.rest)

pub returns : goal.returns
returns c =
    let names = c.args.self.now.names in
    let node = text_node kind.Var c.args.text.now c.args.start none in
    let shape = variable_shape c.args.budget (below c.args.budget) names c.args.self.now.rest.now c.args.text.now c.requires.0 c.requires.1.0 (sym c.is_variable.ensures ∙ c.if-not-is_variable.false) in
    let is_found = whole_entered _ 0 c.args.budget c.in_ok-enter.field-0 _ _ shape c.in_ok-enter.ensures.lower
    ∙ ap (λ n. found (text_node kind.Var c.args.text.now n none) (behind_one c.args.self.now.rest.now)) (sym c.requires.1.1) ∙ ap (found node) (sym c.in_ok-enter.ensures.rest) in
    made (λ t. ⊤) _ (after names) node (stack_of c.args.self.now.trees) c.args.budget (length c.args.self.now.rest.now) _ c.leaf.result
    (pushed_leaf node c.args.self.now c.enter.new.self _ _ c.in_ok-enter.ensures.kept c.leaf.ensures.tree) is_found
    (c.in_ok-enter.ensures.kept.names_are ∙ sym (after_none names kind.Var c.args.text.now c.args.start refl)) tt
    (let f = c.in_ok-enter.ensures.lower.fits in omega (arith, f)) (let a = shorter_one _ _ c.requires.1.0 in let b = ap length c.in_ok-enter.ensures.rest in omega (arith, a, b))
