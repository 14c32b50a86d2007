-- Initialized declarators from behind the first declarator.
use Rattle.std.proofs.Common.{suc, length, sym, arith, rules, ◌∙◌}
use Rattle.std.specs.Prelude.{⊤}
use Rattle.c_grammar.specs.Scopes.{add, entries_behind}
use Rattle.c_grammar.specs.Reading.{below, init_declarator_in}
use Rattle.c_parser.specs.Gives.{itself_high, no_more}
use Rattle.c_parser.proofs.Stopping.{gives_row_stop}
use Rattle.c_parser.proofs.CommaRows.{listing_stops, listing_next, listing_end}
use Rattle.c_parser.proofs.InitializerLaws.{after_initialized, follows_initialized, behind_stops, listing_behind}
use Rattle.c_parser.proofs.parser.Parser.init_declarators_from.Goals as goal

pub returns-in_err-height-clause-read : goal.returns-in_err-height-clause-read
returns-in_err-height-clause-read c = λ names x under declared.
    gives_row_stop itself_high no_more _ _ _ _ _ _ _ c.in_err-height.field-0.0 c.from_residual.ensures (
    behind_stops c.args.budget (below c.args.budget) c.args.is_typedef names x c.args.self.now.rest.now _ c.in_err-height.field-0.0 (c.in_err-height.ensures.read names x under declared))

pub loop-self-init : goal.loop-self-init
loop-self-init c = record {
  low = c.in_ok-height.ensures.low;
  read = λ names x under declared.
      listing_behind c.args.budget (below c.args.budget) c.args.is_typedef names x c.args.self.now.rest.now _ under c.args.budget (suc (length c.args.self.now.rest.now)) c.init_declarator_from.new.self
      c.in_ok-height.field-0 (c.in_ok-height.ensures.read names x under declared);
}

pub returns-in_err-init_declarator-clause-read : goal.returns-in_err-init_declarator-clause-read
returns-in_err-init_declarator-clause-read c = λ names x under declared.
    let d = c.args.budget in
    let flag = c.args.is_typedef in
    gives_row_stop itself_high no_more _ _ _ _ _ _ _ c.in_err-init_declarator.field-0.0 c.from_residual-in_err-init_declarator.ensures (
    listing_stops d (below d) (init_declarator_in d (below d) flag) (after_initialized flag) _ names (λ ts. add names (entries_behind flag ts)) under d
    (suc (length c.args.self.now.rest.now)) (follows_initialized flag names) c.loop-self.self c.loop-self.height (c.loop-self.invariant.read names x under declared)
    (sym c.at_mark.ensures ∙ c.loop-self-test.true) c.advance.new.self c.advance.ensures.kept c.advance.ensures.rest _ c.in_err-init_declarator.field-0.0 c.in_err-init_declarator.ensures)

pub loop-self-preserved : goal.loop-self-preserved
loop-self-preserved c = record {
  low = let a = c.loop-self.invariant.low in let b = c.in_ok-init_declarator.ensures.low in let e = c.max-height.ensures in omega (arith, a, b, e);
  read = λ names x under declared.
      let d = c.args.budget in
      let flag = c.args.is_typedef in
      listing_next d (below d) (init_declarator_in d (below d) flag) (after_initialized flag) _ names (λ ts. add names (entries_behind flag ts)) under d
      (suc (length c.args.self.now.rest.now)) (follows_initialized flag names) c.loop-self.self c.loop-self.height (c.loop-self.invariant.read names x under declared)
      (sym c.at_mark.ensures ∙ c.loop-self-test.true) c.advance.new.self c.advance.ensures.kept c.advance.ensures.rest _ c.init_declarator.new.self c.in_ok-init_declarator.field-0
      c.in_ok-init_declarator.ensures _ (search rules);
}

pub returns-clause-read : goal.returns-clause-read
returns-clause-read c = λ names x under declared.
    let d = c.args.budget in
    let flag = c.args.is_typedef in
    listing_end d (below d) (init_declarator_in d (below d) flag) (after_initialized flag) _ names (λ ts. add names (entries_behind flag ts)) under d
    (suc (length c.args.self.now.rest.now)) (follows_initialized flag names) (λ ts. ⊤) c.loop-self.self c.loop-self.height (c.loop-self.invariant.read names x under declared)
    (sym c.at_mark.ensures ∙ c.loop-self-test.false) tt
