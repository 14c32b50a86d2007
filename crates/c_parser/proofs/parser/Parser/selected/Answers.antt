use Rattle.std.proofs.Common.{refl, sym, ap, ◌∙◌, arith, ◌<◌}
use Rattle.c_syntax.specs.Trees.{height, text_node, one}
use Rattle.c_grammar.specs.Answers.{found}
use Rattle.c_parser.specs.Gives.{itself}
use Rattle.c_parser.proofs.Stopping.{gives_stop, balked_name}
use Rattle.c_parser.proofs.Made.{one_made, read_on}
use Rattle.c_parser.proofs.parser.Parser.selected.Goals as goal

pub returns-in_err-name : goal.returns-in_err-name
returns-in_err-name c = λ names x under read. gives_stop itself _ _ _ _ _ _ _ _ c.in_err-name.field-0.0 c.from_residual.ensures (
    balked_name c.args.self.now c.expect_identifier.new.self _ c.in_err-name.field-0.0 c.in_err-name.ensures)

pub returns : goal.returns
returns c = λ names x under read.
    let part = c.args.operand in
    let passed = c.in_ok-name.ensures in
    one_made c.args.kind c.in_ok-name.name.now part.start c.requires.quiet (λ t. height x < height t) _ _ part.height _ refl
    names x under part c.expect_identifier.new.self _ c.above.result
    (read_on names x under part c.args.self.now c.expect_identifier.new.self passed.kept read) (omega arith) refl passed.shorter c.above.ensures.tree
    (passed.goes_on _ ∙ ap (λ n. found (text_node c.args.kind c.in_ok-name.name.now n (one x)) c.expect_identifier.new.self.rest.now) (sym read.pushed.start_is)) (omega arith)
