-- A function, from its body on.
use Rattle.std.proofs.Common.{false, length, ◌<◌, ◌≤◌, ◌∙◌, ap, arith, refl, subst}
use Rattle.std.specs.Prelude.{⊤}
use Rattle.c_syntax.specs.declared.kind.SynKind.TheVariants as kind
use Rattle.c_syntax.specs.Trees.{plain_node, one, three, height}
use Rattle.c_syntax.specs.Tables.{stack_of}
use Rattle.c_grammar.specs.Scopes.{after, entries_behind, parameter_entries, parameters_of}
use Rattle.c_parts.specs.Pushed.{IsPushed}
use Rattle.c_parser.specs.Gives.{itself, nothing_more}
use Rattle.c_parser.proofs.Made.{made}
use Rattle.c_parser.proofs.Stopping.{gives_stop, stops_before, found_then}
use Rattle.c_parser.proofs.Spans.{within_some}
use Rattle.c_parser.proofs.NamesBehind.{names_function}
use Rattle.c_parser.proofs.DeclarationLaws.{within_both, body_names, body_inside}
use Rattle.c_parser.proofs.parser.Parser.function.Goals as goal

pub returns-in_err-body : goal.returns-in_err-body
returns-in_err-body c = λ names s x under behind pushed said declared.
    let d = c.args.budget in
    let specs = c.args.specs in
    let opens = c.in_ok-open_body.ensures in
    let within = within_both d specs.part.height c.args.declarator.part.height c.requires in
    gives_stop itself nothing_more _ _ _ _ _ _ _ c.in_err-body.field-0.0 c.from_residual-in_err-body.ensures (
    stops_before _ _ _ _ c.in_err-body.field-0.0
    (body_inside d c.next_lower.result (c.next_lower.ensures.lower (within_some specs.part.height d within)) names c.open_body.new.self.names s x c.args.self.now.rest.now c.open_body.new.self.rest.now
    specs.part.start (body_names names s x behind c.args.declarator c.args.self.now c.open_body.new.self declared opens) opens.rest_is pushed.start_is) c.in_err-body.ensures)

pub returns : goal.returns
returns c = λ names s x under behind pushed said declared.
    let d = c.args.budget in
    let specs = c.args.specs in
    let opens = c.in_ok-open_body.ensures in
    let given = c.in_ok-body.ensures in
    let b = given.tree in
    let node = plain_node kind.Function specs.part.start (three s x b) in
    let within = within_both d specs.part.height c.args.declarator.part.height c.requires in
    let some = within_some specs.part.height d within in
    let inside = body_names names s x behind c.args.declarator c.args.self.now c.open_body.new.self declared opens in
    let last = subst (λ trees. IsPushed b (stack_of trees) (stack_of c.body.new.self.trees) c.in_ok-body.body) opens.trees_are given.read.pushed in
    let low : height node ≤ d =
    let h = pushed.height_is in let i = declared.read.pushed.height_is in let j = given.read.pushed.height_is in let k = c.requires in let l = given.low in
    let m = c.next_lower.ensures.less some in omega (arith, h, i, j, k, l, m) in
    let fewer : length c.body.new.self.rest.now < length c.args.self.now.rest.now = let f = given.shorter in let g = ap length opens.rest_is in omega (arith, f, g) in
    made (λ t. ⊤) _ (after names) node under d (length c.args.self.now.rest.now) _ c.above_three.result
    (c.above_three.ensures.tree s x b under behind (stack_of c.args.self.now.trees) pushed declared.read.pushed last)
    (body_inside d c.next_lower.result (c.next_lower.ensures.lower some) names c.open_body.new.self.names s x c.args.self.now.rest.now c.open_body.new.self.rest.now
    specs.part.start inside opens.rest_is pushed.start_is ∙ found_then _ _ b _ given.found_is)
    (names_function names c.open_body.new.self.names c.body.new.self.names c.close.new.self (parameter_entries (parameters_of (one x))) (entries_behind false b.kids) specs.part.start node s x b
    given.said refl inside given.read.names_are c.close.ensures) tt low fewer
