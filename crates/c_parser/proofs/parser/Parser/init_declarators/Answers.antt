-- Initialized declarators.
use Rattle.std.proofs.Common.{length, sym, arith, rules, ◌∙◌}
use Rattle.std.specs.Prelude.{⊤}
use Rattle.c_syntax.specs.Tables.{stack_of}
use Rattle.c_grammar.specs.Scopes.{add, entries_behind}
use Rattle.c_grammar.specs.Reading.{below, init_declarator_in}
use Rattle.c_parser.specs.Gives.{itself_high, no_more}
use Rattle.c_parser.proofs.Stopping.{gives_row_stop, stops_same}
use Rattle.c_parser.proofs.CommaRows.{listed_first_stops, listing_first, listing_stops, listing_next, listing_smaller, listing_end}
use Rattle.c_parser.proofs.InitializerLaws.{after_initialized, follows_initialized, declarators_listed}
use Rattle.c_parser.proofs.parser.Parser.init_declarators.Goals as goal

pub returns-in_err-height : goal.returns-in_err-height
returns-in_err-height c =
    let d = c.args.budget in
    let flag = c.args.is_typedef in
    let names = c.args.self.now.names in
    let ts = c.args.self.now.rest.now in
    gives_row_stop itself_high no_more _ _ _ _ _ _ _ c.in_err-height.field-0.0 c.from_residual.ensures (
    stops_same _ _ _ c.in_err-height.field-0.0 (declarators_listed d (below d) flag names ts)
    (listed_first_stops d (below d) (init_declarator_in d (below d) flag) (after_initialized flag) (length ts) names ts _ c.in_err-height.field-0.0 c.in_err-height.ensures))

pub loop-self-init : goal.loop-self-init
loop-self-init c =
    let d = c.args.budget in
    let flag = c.args.is_typedef in
    let names = c.args.self.now.names in
    let ts = c.args.self.now.rest.now in
    listing_first d (below d) (init_declarator_in d (below d) flag) (after_initialized flag) _ names (λ ts. add names (entries_behind flag ts)) (stack_of c.args.self.now.trees) d (length ts)
    (follows_initialized flag names) ts (declarators_listed d (below d) flag names ts) _ c.init_declarator.new.self c.in_ok-height.field-0 c.in_ok-height.ensures (omega arith)

pub returns-in_err-init_declarator : goal.returns-in_err-init_declarator
returns-in_err-init_declarator c =
    let d = c.args.budget in
    let flag = c.args.is_typedef in
    let names = c.args.self.now.names in
    gives_row_stop itself_high no_more _ _ _ _ _ _ _ c.in_err-init_declarator.field-0.0 c.from_residual-in_err-init_declarator.ensures (
    listing_stops d (below d) (init_declarator_in d (below d) flag) (after_initialized flag) _ names (λ ts. add names (entries_behind flag ts)) (stack_of c.args.self.now.trees) d
    (length c.args.self.now.rest.now) (follows_initialized flag names) c.loop-self.self c.loop-self.height c.loop-self.invariant (sym c.at_mark.ensures ∙ c.loop-self-test.true)
    c.advance.new.self c.advance.ensures.kept c.advance.ensures.rest _ c.in_err-init_declarator.field-0.0 c.in_err-init_declarator.ensures)

pub loop-self-preserved : goal.loop-self-preserved
loop-self-preserved c =
    let d = c.args.budget in
    let flag = c.args.is_typedef in
    let names = c.args.self.now.names in
    listing_next d (below d) (init_declarator_in d (below d) flag) (after_initialized flag) _ names (λ ts. add names (entries_behind flag ts)) (stack_of c.args.self.now.trees) d
    (length c.args.self.now.rest.now) (follows_initialized flag names) c.loop-self.self c.loop-self.height c.loop-self.invariant (sym c.at_mark.ensures ∙ c.loop-self-test.true)
    c.advance.new.self c.advance.ensures.kept c.advance.ensures.rest _ c.init_declarator-in-loop-self.new.self c.in_ok-init_declarator.field-0 c.in_ok-init_declarator.ensures _ (search rules)

pub loop-self-smaller : goal.loop-self-smaller
loop-self-smaller c =
    let d = c.args.budget in
    let flag = c.args.is_typedef in
    let names = c.args.self.now.names in
    listing_smaller d (below d) (init_declarator_in d (below d) flag) (after_initialized flag) _ names (λ ts. add names (entries_behind flag ts)) (stack_of c.args.self.now.trees) d
    (length c.args.self.now.rest.now) (follows_initialized flag names) c.loop-self.self c.loop-self.height c.loop-self.invariant (sym c.at_mark.ensures ∙ c.loop-self-test.true)
    c.advance.new.self c.advance.ensures.kept c.advance.ensures.rest _ c.init_declarator-in-loop-self.new.self c.in_ok-init_declarator.field-0 c.in_ok-init_declarator.ensures

pub returns : goal.returns
returns c =
    let d = c.args.budget in
    let flag = c.args.is_typedef in
    let names = c.args.self.now.names in
    listing_end d (below d) (init_declarator_in d (below d) flag) (after_initialized flag) _ names (λ ts. add names (entries_behind flag ts)) (stack_of c.args.self.now.trees) d
    (length c.args.self.now.rest.now) (follows_initialized flag names) (λ ts. ⊤) c.loop-self.self c.loop-self.height c.loop-self.invariant (sym c.at_mark.ensures ∙ c.loop-self-test.false) tt
