-- A declaration from behind its first declarator.
use Rattle.std.proofs.Common.{length, ◌≡◌, ◌<◌, ◌≤◌, ◌∙◌, ap, arith}
use Rattle.c_lexer.specs.declared.token.Punct.TheVariants.{Semicolon}
use Rattle.c_grammar.specs.Scopes.{after}
use Rattle.c_parser.specs.Gives.{itself, nothing_more}
use Rattle.c_parser.proofs.Made.{trees_on}
use Rattle.c_parser.proofs.Stopping.{gives_stop, stops_before, found_then, passed}
use Rattle.c_parser.proofs.Spans.{mark_stops, within_some}
use Rattle.c_parser.proofs.DeclarationLaws.{row_behind, within_both, declaration_made}
use Rattle.c_parser.proofs.parser.Parser.declaration_from.Goals as goal

pub above_first-requires : goal.above_first-requires
above_first-requires c =
    let within = within_both c.args.budget c.args.specs.part.height c.args.declarator.part.height c.requires in
    let less = c.next_lower-lower.ensures.less (within_some c.args.specs.part.height c.args.budget within) in
    let low = c.in_ok-height.ensures.low in
    let a = within.1.0 in
    let b = within.1.1 in
    let most = c.ranges.budget.fits in
    omega (arith, less, low, a, b, most)

pub returns-in_err-height : goal.returns-in_err-height
returns-in_err-height c = λ names s x under behind pushed said declared.
    let d = c.args.budget in
    let specs = c.args.specs in
    let within = within_both d specs.part.height c.args.declarator.part.height c.requires in
    gives_stop itself nothing_more _ _ _ _ _ _ _ c.in_err-height.field-0.0 c.from_residual.ensures (
    stops_before _ _ _ _ c.in_err-height.field-0.0
    (row_behind d c.next_lower-lower.result (c.next_lower-lower.ensures.lower (within_some specs.part.height d within)) names s x c.args.self.now.rest.now specs.is_typedef specs.part.start
    said.typedef_is pushed.start_is) (c.in_err-height.ensures.read (after names s) x behind declared))

pub returns-in_err-expect : goal.returns-in_err-expect
returns-in_err-expect c = λ names s x under behind pushed said declared.
    let d = c.args.budget in
    let specs = c.args.specs in
    let within = within_both d specs.part.height c.args.declarator.part.height c.requires in
    let row = c.in_ok-height.ensures.read (after names s) x behind declared in
    gives_stop itself nothing_more _ _ _ _ _ _ _ c.in_err-expect.field-0.0 c.from_residual-in_err-expect.ensures (
    mark_stops _ Semicolon c.init_declarators_from.new.self c.expect.new.self _ _
    (row_behind d c.next_lower-lower.result (c.next_lower-lower.ensures.lower (within_some specs.part.height d within)) names s x c.args.self.now.rest.now specs.is_typedef specs.part.start
    said.typedef_is pushed.start_is ∙ found_then _ _ _ _ row.found_is) c.in_err-expect.ensures)

pub returns : goal.returns
returns c = λ names s x under behind pushed said declared.
    let d = c.args.budget in
    let specs = c.args.specs in
    let within = within_both d specs.part.height c.args.declarator.part.height c.requires in
    let below_it = within_some specs.part.height d within in
    let row = c.in_ok-height.ensures.read (after names s) x behind declared in
    let close = c.in_ok-expect.ensures in
    let low : c.in_ok-height.height ≤ within.0 = let l = row.low in let m = c.next_lower-lower.ensures.less below_it in let n = within.1.0 in omega (arith, l, m, n) in
    let shorter : length c.expect.new.self.rest.now < length c.args.self.now.rest.now = let f = row.shorter in let g = close.shorter in omega (arith, f, g) in
    let mark : c.saturating_sub-mark.result ≡ length behind =
    let stack = ap length declared.read.pushed.stack_is in let long = c.len.ensures in let less = c.saturating_sub-mark.ensures in omega (arith, stack, long, less) in
    declaration_made _ d within.0 (length c.args.self.now.rest.now) within.1.0 names s row.trees under behind specs c.in_ok-height.height _ c.above_first.result pushed said within.1.1
    row.read.pushed.height_is low (close.kept.names_are ∙ row.read.names_are)
    (c.above_first.ensures.tree s row.trees under behind mark pushed
    (trees_on row.trees behind c.in_ok-height.height c.init_declarators_from.new.self c.expect.new.self close.kept row.read.pushed))
    (row_behind d c.next_lower-lower.result (c.next_lower-lower.ensures.lower below_it) names s x c.args.self.now.rest.now specs.is_typedef specs.part.start said.typedef_is pushed.start_is
    ∙ found_then _ _ _ _ row.found_is ∙ passed Semicolon c.init_declarators_from.new.self c.expect.new.self _ close) shorter
