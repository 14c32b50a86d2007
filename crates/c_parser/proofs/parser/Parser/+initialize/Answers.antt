-- Initializers.
use Rattle.std.proofs.Common.{◌<◌, [], length, refl, sym, ap, ◌∙◌, arith, rules}
use Rattle.std.specs.Prelude.{⊤}
use Rattle.c_lexer.specs.declared.token.Punct.TheVariants.{RightBrace}
use Rattle.c_syntax.specs.declared.kind.SynKind.TheVariants as kind
use Rattle.c_syntax.specs.Trees.{plain_node, forest_of}
use Rattle.c_syntax.specs.Tables.{stack_of}
use Rattle.c_grammar.specs.Answers.{found}
use Rattle.c_grammar.specs.Reading.{below, initializers, initializer_in}
use Rattle.c_parser.specs.Gives.{itself, itself_high, nothing_more, no_more}
use Rattle.c_parser.proofs.Stopping.{gives_stop, gives_row_stop, whole_barred, stops_before, found_then, passed}
use Rattle.c_parser.proofs.Tokens.{shorter_behind}
use Rattle.c_parser.proofs.Made.{gives_same, row_made, row_from}
use Rattle.c_parser.proofs.Spans.{row_inside, row_on, mark_stops}
use Rattle.c_parser.proofs.BraceRows.{in_braces_first, in_braces_first_stops, in_braces_stops, in_braces_next, in_braces_smaller, in_braces_end, in_braces_end_comma}
use Rattle.c_parser.proofs.InitializerLaws.{braces_shape, no_braces, initializers_listed}
use Rattle.c_parser.proofs.parser.Parser.+initialize.Goals as goal

-- ---- one

pub initializer-returns-then-not-at_mark : goal.initializer-returns-then-not-at_mark
initializer-returns-then-not-at_mark t c =
    let d = c.args.budget in
    gives_same itself nothing_more _ _ _ _ _ _ _ _ (no_braces d (below d) c.args.self.now.names c.args.self.now.rest.now (sym c.at_mark.ensures ∙ c.if-not-at_mark.true)) c.assignment.ensures

pub initializer-returns-in_err-lower : goal.initializer-returns-in_err-lower
initializer-returns-in_err-lower t c =
    let d = c.args.budget in
    gives_stop itself nothing_more _ _ _ _ _ _ _ c.in_err-lower.field-0.0 c.from_residual.ensures (
    whole_barred _ 1 d 0 _ _ (braces_shape d (below d) c.args.self.now.names c.args.self.now.rest.now (sym c.at_mark.ensures ∙ c.if-not-at_mark.false))
    _ c.in_err-lower.field-0.0 c.in_err-lower.ensures.lower c.in_err-lower.ensures.rest)

pub initializer-returns-in_err-height : goal.initializer-returns-in_err-height
initializer-returns-in_err-height t c =
    let d = c.args.budget in
    let entered = c.in_ok-lower.ensures in
    gives_stop itself nothing_more _ _ _ _ _ _ _ c.in_err-height.field-0.0 c.from_residual-in_err-height.ensures (
    stops_before _ _ _ _ c.in_err-height.field-0.0 (row_inside 1 d c.in_ok-lower.lower entered.lower initializers _ _ c.args.self.now c.enter.new.self
    (braces_shape d (below d) c.args.self.now.names c.args.self.now.rest.now (sym c.at_mark.ensures ∙ c.if-not-at_mark.false)) entered.kept entered.rest) c.in_err-height.ensures)

pub initializer-returns-in_err-expect : goal.initializer-returns-in_err-expect
initializer-returns-in_err-expect t c =
    let d = c.args.budget in
    let entered = c.in_ok-lower.ensures in
    let row = c.in_ok-height.ensures in
    gives_stop itself nothing_more _ _ _ _ _ _ _ c.in_err-expect.field-0.0 c.from_residual-in_err-expect.ensures (
    mark_stops _ RightBrace c.initializers.new.self c.expect.new.self _ _
    (row_inside 1 d c.in_ok-lower.lower entered.lower initializers _ _ c.args.self.now c.enter.new.self
    (braces_shape d (below d) c.args.self.now.names c.args.self.now.rest.now (sym c.at_mark.ensures ∙ c.if-not-at_mark.false)) entered.kept entered.rest
    ∙ found_then _ _ _ _ row.found_is) c.in_err-expect.ensures)

pub initializer-returns : goal.initializer-returns
initializer-returns t c =
    let d = c.args.budget in
    let entered = c.in_ok-lower.ensures in
    let close = c.in_ok-expect.ensures in
    let given = c.in_ok-height.ensures in
    let row = row_from _ _ _ _ c.args.self.now c.enter.new.self c.initializers.new.self _ entered.kept given in
    let behind = shorter_behind c.args.self.now.rest.now c.enter.new.self.rest.now c.initializers.new.self.rest.now entered.rest given.shorter in
    let shorter : length c.expect.new.self.rest.now < length c.args.self.now.rest.now = let b = close.shorter in omega (arith, behind, b) in
    let shape = braces_shape d (below d) c.args.self.now.names c.args.self.now.rest.now (sym c.at_mark.ensures ∙ c.if-not-at_mark.false) in
    row_made kind.Braces [] c.start-start.result refl (λ t. ⊤) _ d c.in_ok-lower.lower (length c.args.self.now.rest.now) entered.lower.next
    c.args.self.now.names row.trees (stack_of c.args.self.now.trees) c.in_ok-height.height c.expect.new.self _ c.above_row.result
    (row_on c.args.self.now.names row.trees _ _ c.initializers.new.self c.expect.new.self close.kept row.read) given.low refl shorter
    (c.above_row.ensures.tree row.trees (stack_of c.args.self.now.trees) (c.len-mark.ensures ∙ ap (λ trees. length (stack_of trees)) entered.kept.trees_are))
    (row_inside 1 d c.in_ok-lower.lower entered.lower initializers _ _ c.args.self.now c.enter.new.self shape entered.kept entered.rest ∙ found_then _ _ _ _ row.found_is
    ∙ passed RightBrace c.initializers.new.self c.expect.new.self _ close
    ∙ ap (λ n. found (plain_node kind.Braces n (forest_of row.trees)) c.expect.new.self.rest.now) (sym c.start-start.ensures)) tt

-- ---- rows

pub initializers-returns-in_err-height : goal.initializers-returns-in_err-height
initializers-returns-in_err-height t c =
    let d = c.args.budget in
    let names = c.args.self.now.names in
    let ts = c.args.self.now.rest.now in
    gives_row_stop itself_high no_more _ _ _ _ _ _ _ c.in_err-height.field-0.0 c.from_residual.ensures (
    in_braces_first_stops d (below d) (initializer_in d (below d)) _ names (stack_of c.args.self.now.trees) d (length ts) ts _ c.in_err-height.field-0.0
    (initializers_listed d (below d) names ts) c.in_err-height.ensures)

pub initializers-loop-self-init : goal.initializers-loop-self-init
initializers-loop-self-init t c =
    let d = c.args.budget in
    let names = c.args.self.now.names in
    let ts = c.args.self.now.rest.now in
    in_braces_first d (below d) (initializer_in d (below d)) _ names (stack_of c.args.self.now.trees) d (length ts) ts (initializers_listed d (below d) names ts)
    _ c.initializer.new.self c.in_ok-height.field-0 c.in_ok-height.ensures (omega arith)

pub initializers-returns-then-at_mark : goal.initializers-returns-then-at_mark
initializers-returns-then-at_mark t c =
    let d = c.args.budget in
    in_braces_end_comma d (below d) (initializer_in d (below d)) _ c.args.self.now.names (stack_of c.args.self.now.trees) d (length c.args.self.now.rest.now)
    c.loop-self.self c.loop-self.height c.loop-self.invariant (sym c.at_mark.ensures ∙ c.loop-self-test.true) c.advance.new.self c.advance.ensures.kept c.advance.ensures.rest
    (sym c.at_mark-in-loop-self.ensures ∙ c.if-at_mark.true)

pub initializers-returns-in_err-initializer : goal.initializers-returns-in_err-initializer
initializers-returns-in_err-initializer t c =
    let d = c.args.budget in
    gives_row_stop itself_high no_more _ _ _ _ _ _ _ c.in_err-initializer.field-0.0 c.from_residual-in_err-initializer.ensures (
    in_braces_stops d (below d) (initializer_in d (below d)) _ c.args.self.now.names (stack_of c.args.self.now.trees) d (length c.args.self.now.rest.now)
    c.loop-self.self c.loop-self.height c.loop-self.invariant (sym c.at_mark.ensures ∙ c.loop-self-test.true) c.advance.new.self c.advance.ensures.kept c.advance.ensures.rest
    (sym c.at_mark-in-loop-self.ensures ∙ c.if-at_mark.false) _ c.in_err-initializer.field-0.0 c.in_err-initializer.ensures)

pub initializers-loop-self-preserved : goal.initializers-loop-self-preserved
initializers-loop-self-preserved t c =
    let d = c.args.budget in
    in_braces_next d (below d) (initializer_in d (below d)) _ c.args.self.now.names (stack_of c.args.self.now.trees) d (length c.args.self.now.rest.now)
    c.loop-self.self c.loop-self.height c.loop-self.invariant (sym c.at_mark.ensures ∙ c.loop-self-test.true) c.advance.new.self c.advance.ensures.kept c.advance.ensures.rest
    (sym c.at_mark-in-loop-self.ensures ∙ c.if-at_mark.false) _ c.initializer-in-loop-self.new.self c.in_ok-initializer.field-0 c.in_ok-initializer.ensures _ (search rules)

pub initializers-loop-self-smaller : goal.initializers-loop-self-smaller
initializers-loop-self-smaller t c =
    let d = c.args.budget in
    in_braces_smaller d (below d) (initializer_in d (below d)) _ c.args.self.now.names (stack_of c.args.self.now.trees) d (length c.args.self.now.rest.now)
    c.loop-self.self c.loop-self.height c.loop-self.invariant (sym c.at_mark.ensures ∙ c.loop-self-test.true) c.advance.new.self c.advance.ensures.kept c.advance.ensures.rest
    (sym c.at_mark-in-loop-self.ensures ∙ c.if-at_mark.false) _ c.initializer-in-loop-self.new.self c.in_ok-initializer.field-0 c.in_ok-initializer.ensures

pub initializers-returns : goal.initializers-returns
initializers-returns t c =
    let d = c.args.budget in
    in_braces_end d (below d) (initializer_in d (below d)) _ c.args.self.now.names (stack_of c.args.self.now.trees) d (length c.args.self.now.rest.now)
    c.loop-self.self c.loop-self.height c.loop-self.invariant (sym c.at_mark.ensures ∙ c.loop-self-test.false)
