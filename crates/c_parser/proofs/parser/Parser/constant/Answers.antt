use Rattle.std.proofs.Common.{sym, ap, ◌∙◌, arith, length}
use Rattle.std.specs.Prelude.{⊤}
use Rattle.c_syntax.specs.Trees.{constant_node}
use Rattle.c_syntax.specs.Tables.{stack_of}
use Rattle.c_grammar.specs.Scopes.{after}
use Rattle.c_grammar.specs.Answers.{found}
use Rattle.c_parts.proofs.NameLaws.{after_constant}
use Rattle.c_parser.specs.Gives.{itself, nothing_more}
use Rattle.c_parser.proofs.Stopping.{gives_stop, barred, entered}
use Rattle.c_parser.proofs.Tokens.{some_shorter}
use Rattle.c_parser.proofs.Made.{made, pushed_leaf}
use Rattle.c_parser.proofs.parser.Parser.constant.Goals as goal

pub returns-in_err-enter : goal.returns-in_err-enter
returns-in_err-enter c = gives_stop itself nothing_more _ _ _ _ _ _ _ c.in_err-enter.field-0.0 c.from_residual.ensures (
    barred 0 c.args.budget _ _ _ c.in_err-enter.field-0.0 c.in_err-enter.ensures.lower c.in_err-enter.ensures.rest)

pub returns : goal.returns
returns c =
    let node = constant_node c.args.kind c.args.value c.args.start in
    made (λ t. ⊤) _ (after c.args.self.now.names) node (stack_of c.args.self.now.trees) c.args.budget (length c.args.self.now.rest.now) _ c.constant.result
    (pushed_leaf node c.args.self.now c.enter.new.self _ _ c.in_ok-enter.ensures.kept c.constant.ensures.tree)
    (entered 0 c.args.budget c.in_ok-enter.field-0 _ _ c.in_ok-enter.ensures.lower ∙ ap (found node) (sym c.in_ok-enter.ensures.rest))
    (c.in_ok-enter.ensures.kept.names_are ∙ sym (after_constant c.args.self.now.names c.args.kind c.args.value c.args.start c.requires.leaf)) tt
    (let f = c.in_ok-enter.ensures.lower.fits in omega (arith, f)) (some_shorter _ _ c.in_ok-enter.ensures.rest c.requires.some)
