-- The unit.
use Rattle.std.proofs.Common.{[], length, ◌∙◌, ap, sym, refl, arith}
use Rattle.c_syntax.specs.declared.kind.SynKind.TheVariants as kind
use Rattle.c_syntax.specs.Trees.{plain_node, forest_of}
use Rattle.c_grammar.specs.Answers.{found}
use Rattle.c_grammar.specs.Reading.{Rows, below, rows_in}
use Rattle.c_parser.proofs.Stopping.{found_before}
use Rattle.c_parser.proofs.ItemRows.{external_row_first, external_row_next, external_row_stops, external_row_end}
use Rattle.c_parser.proofs.UnitReadings.{unit_row, unit_stops, unit_stops_first, externals_listed, gives_unit_stop, unit_made, some_left, none_left}
use Rattle.c_parser.proofs.parser.Parser.unit.Goals as goal

pub returns-in_err-first : goal.returns-in_err-first
returns-in_err-first c = λ n stack.
    gives_unit_stop _ _ _ c.in_err-first.field-0.0 c.from_residual.ensures (
    unit_stops_first c.args.lower c.args.self.now.names c.args.self.now.rest.now _ c.in_err-first.field-0.0 n c.in_err-first.ensures)

pub loop-self-init : goal.loop-self-init
loop-self-init c =
    let d = c.args.lower in
    record {
      low = c.in_ok-first.ensures.low;
      read = λ n stack. external_row_first d (below d) _ [] d c.in_ok-first.first.start c.args.self.now (externals_listed d c.args.self.now.names c.args.self.now.rest.now) stack
          _ c.external.new.self c.in_ok-first.first c.in_ok-first.ensures refl;
    }

pub returns-in_err-external : goal.returns-in_err-external
returns-in_err-external c = λ n stack.
    let d = c.args.lower in
    gives_unit_stop _ _ _ c.in_err-external.field-0.0 c.from_residual-in_err-external.ensures (
    unit_stops d c.args.self.now.names c.args.self.now.rest.now _ c.in_err-external.field-0.0 n (
    external_row_stops d (below d) _ [] d c.in_ok-first.first.start c.loop-self.self c.loop-self.height (c.loop-self.invariant.read n stack)
    (some_left _ c.loop-self.self.rest.now c.is_empty.ensures c.loop-self-test.true) _ c.in_err-external.field-0.0 c.in_err-external.ensures))

pub loop-self-preserved : goal.loop-self-preserved
loop-self-preserved c =
    let d = c.args.lower in
    record {
      low = let a = c.loop-self.invariant.low in let b = c.in_ok-external.ensures.low in let e = c.max-height.ensures in omega (arith, a, b, e);
      read = λ n stack. external_row_next d (below d) _ [] d c.in_ok-first.first.start c.loop-self.self c.loop-self.height (c.loop-self.invariant.read n stack)
          (some_left _ c.loop-self.self.rest.now c.is_empty.ensures c.loop-self-test.true) _ c.external-in-loop-self.new.self c.in_ok-external.field-0 c.in_ok-external.ensures _ c.max-height.ensures;
    }

pub returns : goal.returns
returns c = λ n stack.
    let d = c.args.lower in
    let ts = c.args.self.now.rest.now in
    let so_far = c.loop-self.invariant.read n stack in
    let row = forest_of so_far.trees in
    let ended = none_left _ c.loop-self.self.rest.now c.is_empty.ensures c.loop-self-test.false in
    unit_made _ (plain_node kind.Unit c.in_ok-first.first.start row) _ c.above_row.result
    (c.above_row.ensures.tree so_far.trees [] (c.len-mark.ensures ∙ ap length stack) so_far.pushed)
    (found_before _ (rows_in d (below d) Rows.externals c.args.self.now.names ts) _ row _ (unit_row d c.args.self.now.names ts n)
    (external_row_end d (below d) _ [] d c.in_ok-first.first.start c.loop-self.self c.loop-self.height so_far ended)
    ∙ ap (λ k. found (plain_node kind.Unit k row) c.loop-self.self.rest.now) (sym so_far.start_is)) ended
