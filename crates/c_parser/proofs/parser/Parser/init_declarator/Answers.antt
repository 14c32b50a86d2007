-- A declarator, and its initializer where it has one.
use Rattle.std.proofs.Common.{suc, length, sym, ap, arith, ◌+◌, ◌∙◌}
use Rattle.c_syntax.specs.Tables.{stack_of}
use Rattle.c_grammar.specs.Scopes.{after}
use Rattle.c_grammar.specs.Reading.{below}
use Rattle.c_parser.specs.Gives.{itself, nothing_more, IsDeclared}
use Rattle.c_parser.proofs.Made.{gives_same}
use Rattle.c_parser.proofs.Stopping.{gives_stop, stops_before, found_then}
use Rattle.c_parser.proofs.Tokens.{behind_one_shorter}
use Rattle.c_parser.proofs.Spans.{gives_within, within_next, within_some, some_height, declared_on}
use Rattle.c_parser.proofs.InitializerLaws.{declared_inside, with_value, without_value, value_level}
use Rattle.c_parser.proofs.parser.Parser.init_declarator.Goals as goal

pub returns-in_err-declarator : goal.returns-in_err-declarator
returns-in_err-declarator c =
    let next = c.next_lower-lower.ensures in
    gives_stop itself nothing_more _ _ _ _ _ _ _ c.in_err-declarator.field-0.0 c.from_residual.ensures (
    stops_before _ _ _ _ c.in_err-declarator.field-0.0
    (declared_inside c.args.budget c.next_lower-lower.result c.args.self.now.names c.args.self.now.rest.now next.none next.lower c.args.is_typedef) c.in_err-declarator.ensures)

pub returns-then-not-at_mark : goal.returns-then-not-at_mark
returns-then-not-at_mark c =
    let d = c.args.budget in
    let names = c.args.self.now.names in
    let next = c.next_lower-lower.ensures in
    let declarator = c.in_ok-declarator.declarator in
    let given = c.in_ok-declarator.ensures in
    let x = given.tree in
    let within = within_next d c.next_lower-lower.result declarator.part.height next.none next.less (some_height _ x _ _ _ given.read) given.low in
    gives_within itself nothing_more _ _ _ (declarator.part.height + 1) d (suc (length c.declared.new.self.rest.now)) (length c.args.self.now.rest.now) _ _
    (let a = within.1.0 in let b = within.1.1 in omega (arith, a, b)) (let s = given.shorter in omega (arith, s)) (
    gives_same itself nothing_more _ _ _ _ _ _ _ _
    (declared_inside d c.next_lower-lower.result names c.args.self.now.rest.now next.none next.lower c.args.is_typedef ∙ found_then _ _ x _ given.found_is
    ∙ without_value d (below d) c.args.is_typedef names x c.declared.new.self.rest.now (sym c.at_mark.ensures ∙ c.if-not-at_mark.true))
    (c.uninitialized.ensures.read names x (stack_of c.args.self.now.trees) (record { read = given.read; said = given.said })))

pub returns : goal.returns
returns c =
    let d = c.args.budget in
    let lower = c.next_lower-lower.result in
    let names = c.args.self.now.names in
    let next = c.next_lower-lower.ensures in
    let declarator = c.in_ok-declarator.declarator in
    let given = c.in_ok-declarator.ensures in
    let x = given.tree in
    let within = within_next d lower declarator.part.height next.none next.less (some_height _ x _ _ _ given.read) given.low in
    let declared : IsDeclared (after names) x (stack_of c.args.self.now.trees) c.declared.new.self declarator = record { read = given.read; said = given.said } in
    gives_within itself nothing_more _ _ _ (lower + 1) d (suc (length c.advance.new.self.rest.now)) (length c.args.self.now.rest.now) _ _
    (let a = within.1.0 in let b = next.less (within_some declarator.part.height d within) in omega (arith, a, b))
    (let s = given.shorter in let a = behind_one_shorter c.declared.new.self.rest.now in let b = ap length c.advance.ensures.rest in omega (arith, s, a, b)) (
    gives_same itself nothing_more _ _ _ _ _ _ _ _
    (declared_inside d lower names c.args.self.now.rest.now next.none next.lower c.args.is_typedef ∙ found_then _ _ x _ given.found_is
    ∙ with_value d (below d) c.args.is_typedef names x c.declared.new.self.rest.now (sym c.at_mark.ensures ∙ c.if-not-at_mark.false)
    ∙ value_level d lower (next.lower (within_some declarator.part.height d within)) c.args.is_typedef names x c.declared.new.self.rest.now
    c.advance.new.self.rest.now c.advance.ensures.rest)
    (c.initialized.ensures.read names x (stack_of c.args.self.now.trees) (declared_on names x _ c.declared.new.self c.advance.new.self declarator c.advance.ensures.kept declared)))
