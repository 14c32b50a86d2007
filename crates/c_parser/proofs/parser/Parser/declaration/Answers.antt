-- A declaration.
use Rattle.std.proofs.Common.{length, sym, ap, ◌∙◌, arith, refl, ◌<◌, ◌≤◌}
use Rattle.c_lexer.specs.declared.token.Punct.TheVariants.{Semicolon}
use Rattle.c_syntax.specs.Tables.{stack_of}
use Rattle.c_syntax.specs.Trees.{forest_of}
use Rattle.c_grammar.specs.Scopes.{Names, add, entries_behind}
use Rattle.c_grammar.specs.Reading.{below}
use Rattle.c_parser.specs.Gives.{itself, nothing_more}
use Rattle.c_parser.proofs.Made.{trees_on}
use Rattle.c_parser.proofs.Stopping.{gives_stop, stops_before, found_then, passed}
use Rattle.c_parser.proofs.Tokens.{behind_one_shorter}
use Rattle.c_parser.proofs.Spans.{mark_stops, within_next, within_some, some_height}
use Rattle.c_parser.proofs.DeclarationLaws.{declaration_inside, declaration_alone, declaration_row, alone_made, declaration_made}
use Rattle.c_parser.proofs.parser.Parser.declaration.Goals as goal

pub returns-in_err-specs : goal.returns-in_err-specs
returns-in_err-specs c =
    let next = c.next_lower.ensures in
    gives_stop itself nothing_more _ _ _ _ _ _ _ c.in_err-specs.field-0.0 c.from_residual.ensures (
    stops_before _ _ _ _ c.in_err-specs.field-0.0 (declaration_inside c.args.budget c.next_lower.result c.args.self.now.names c.args.self.now.rest.now next.none next.lower) c.in_err-specs.ensures)

pub returns-then-at_mark : goal.returns-then-at_mark
returns-then-at_mark c =
    let d = c.args.budget in
    let next = c.next_lower.ensures in
    let given = c.in_ok-specs.ensures in
    let fewer : length c.advance.new.self.rest.now ≤ length c.specs.new.self.rest.now =
    let a = behind_one_shorter c.specs.new.self.rest.now in let b = ap length c.advance.ensures.rest in omega (arith, a, b) in
    alone_made _ _ d c.next_lower.result next.none next.less c.args.self.now c.specs.new.self c.advance.new.self _ c.in_ok-specs.specs c.above.result given
    c.advance.ensures.kept c.advance.ensures.rest refl refl fewer c.above.ensures.tree
    (declaration_inside d c.next_lower.result c.args.self.now.names c.args.self.now.rest.now next.none next.lower ∙ found_then _ _ given.tree _ given.found_is
    ∙ declaration_alone d (below d) c.args.self.now.names given.tree c.specs.new.self.rest.now (sym c.at_mark.ensures ∙ c.if-at_mark.true))

pub returns-in_err-height : goal.returns-in_err-height
returns-in_err-height c =
    let d = c.args.budget in
    let next = c.next_lower.ensures in
    let given = c.in_ok-specs.ensures in
    let part = c.in_ok-specs.specs.part in
    let within = within_next d c.next_lower.result part.height next.none next.less (some_height _ given.tree _ _ part given.read) given.low in
    gives_stop itself nothing_more _ _ _ _ _ _ _ c.in_err-height.field-0.0 c.from_residual-in_err-height.ensures (
    stops_before _ _ _ _ c.in_err-height.field-0.0
    (declaration_inside d c.next_lower.result c.args.self.now.names c.args.self.now.rest.now next.none next.lower ∙ found_then _ _ given.tree _ given.found_is
    ∙ declaration_row d c.next_lower-2.result (c.next_lower-2.ensures.lower (within_some part.height d within)) c.args.self.now.names c.specs.new.self.names given.tree c.specs.new.self.rest.now
    given.read.names_are c.in_ok-specs.specs.is_typedef part.start given.said.typedef_is given.read.pushed.start_is (sym c.at_mark.ensures ∙ c.if-at_mark.false)) c.in_err-height.ensures)

pub returns-in_err-expect : goal.returns-in_err-expect
returns-in_err-expect c =
    let d = c.args.budget in
    let next = c.next_lower.ensures in
    let given = c.in_ok-specs.ensures in
    let row = c.in_ok-height.ensures in
    let part = c.in_ok-specs.specs.part in
    let within = within_next d c.next_lower.result part.height next.none next.less (some_height _ given.tree _ _ part given.read) given.low in
    gives_stop itself nothing_more _ _ _ _ _ _ _ c.in_err-expect.field-0.0 c.from_residual-in_err-expect.ensures (
    mark_stops _ Semicolon c.init_declarators.new.self c.expect.new.self _ _
    (declaration_inside d c.next_lower.result c.args.self.now.names c.args.self.now.rest.now next.none next.lower ∙ found_then _ _ given.tree _ given.found_is
    ∙ declaration_row d c.next_lower-2.result (c.next_lower-2.ensures.lower (within_some part.height d within)) c.args.self.now.names c.specs.new.self.names given.tree c.specs.new.self.rest.now
    given.read.names_are c.in_ok-specs.specs.is_typedef part.start given.said.typedef_is given.read.pushed.start_is (sym c.at_mark.ensures ∙ c.if-at_mark.false)
    ∙ found_then _ _ _ _ row.found_is) c.in_err-expect.ensures)

pub returns : goal.returns
returns c =
    let d = c.args.budget in
    let names = c.args.self.now.names in
    let next = c.next_lower.ensures in
    let given = c.in_ok-specs.ensures in
    let s = given.tree in
    let row = c.in_ok-height.ensures in
    let close = c.in_ok-expect.ensures in
    let specs = c.in_ok-specs.specs in
    let part = specs.part in
    let within = within_next d c.next_lower.result part.height next.none next.less (some_height _ s _ _ part given.read) given.low in
    let below_it = within_some part.height d within in
    let low : c.in_ok-height.height ≤ within.0 = let l = row.low in let m = c.next_lower-2.ensures.less below_it in let n = within.1.0 in omega (arith, l, m, n) in
    let shorter : length c.expect.new.self.rest.now < length c.args.self.now.rest.now = let e = given.shorter in let f = row.shorter in let g = close.shorter in omega (arith, e, f, g) in
    declaration_made _ d within.0 (length c.args.self.now.rest.now) within.1.0 names s row.trees (stack_of c.args.self.now.trees) (stack_of c.specs.new.self.trees) specs c.in_ok-height.height
    _ c.above_first.result given.read.pushed given.said within.1.1 row.read.pushed.height_is low
    (close.kept.names_are ∙ row.read.names_are ∙ ap (λ (n : Names). add n (entries_behind specs.is_typedef (forest_of row.trees))) given.read.names_are)
    (c.above_first.ensures.tree s row.trees (stack_of c.args.self.now.trees) (stack_of c.specs.new.self.trees) c.len-mark.ensures given.read.pushed
    (trees_on row.trees (stack_of c.specs.new.self.trees) c.in_ok-height.height c.init_declarators.new.self c.expect.new.self close.kept row.read.pushed))
    (declaration_inside d c.next_lower.result names c.args.self.now.rest.now next.none next.lower ∙ found_then _ _ s _ given.found_is
    ∙ declaration_row d c.next_lower-2.result (c.next_lower-2.ensures.lower below_it) names c.specs.new.self.names s c.specs.new.self.rest.now
    given.read.names_are specs.is_typedef part.start given.said.typedef_is given.read.pushed.start_is (sym c.at_mark.ensures ∙ c.if-at_mark.false)
    ∙ found_then _ _ _ _ row.found_is ∙ passed Semicolon c.init_declarators.new.self c.expect.new.self _ close) shorter
