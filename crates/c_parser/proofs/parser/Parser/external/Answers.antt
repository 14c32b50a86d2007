-- A function or a declaration of the unit.
use Rattle.std.proofs.Common.{length, sym, ap, ◌∙◌, arith, refl, ◌≤◌}
use Rattle.c_syntax.specs.Tables.{stack_of}
use Rattle.c_grammar.specs.Scopes.{Names, after}
use Rattle.c_grammar.specs.Reading.{below}
use Rattle.c_parser.specs.Gives.{itself, nothing_more, IsDeclared}
use Rattle.c_parser.proofs.Made.{gives_same}
use Rattle.c_parser.proofs.Stopping.{gives_stop, stops_before, found_then}
use Rattle.c_parser.proofs.Tokens.{behind_one_shorter}
use Rattle.c_parser.proofs.Spans.{gives_within, within_next, within_some, some_height}
use Rattle.c_parser.proofs.DeclarationLaws.{external_inside, external_alone, external_declarator, function_here, declaration_here, alone_made}
use Rattle.c_parser.proofs.parser.Parser.external.Goals as goal

pub returns-in_err-specs : goal.returns-in_err-specs
returns-in_err-specs c =
    let next = c.next_lower.ensures in
    gives_stop itself nothing_more _ _ _ _ _ _ _ c.in_err-specs.field-0.0 c.from_residual.ensures (
    stops_before _ _ _ _ c.in_err-specs.field-0.0 (external_inside c.args.budget c.next_lower.result c.args.self.now.names c.args.self.now.rest.now next.none next.lower) c.in_err-specs.ensures)

pub returns-then-at_mark : goal.returns-then-at_mark
returns-then-at_mark c =
    let d = c.args.budget in
    let next = c.next_lower.ensures in
    let given = c.in_ok-specs.ensures in
    let fewer : length c.advance.new.self.rest.now ≤ length c.specs.new.self.rest.now =
    let a = behind_one_shorter c.specs.new.self.rest.now in let b = ap length c.advance.ensures.rest in omega (arith, a, b) in
    alone_made _ _ d c.next_lower.result next.none next.less c.args.self.now c.specs.new.self c.advance.new.self _ c.in_ok-specs.specs c.above.result given
    c.advance.ensures.kept c.advance.ensures.rest refl refl fewer c.above.ensures.tree
    (external_inside d c.next_lower.result c.args.self.now.names c.args.self.now.rest.now next.none next.lower ∙ found_then _ _ given.tree _ given.found_is
    ∙ external_alone d (below d) c.args.self.now.names given.tree c.specs.new.self.rest.now (sym c.at_mark.ensures ∙ c.if-at_mark.true))

pub returns-in_err-declarator : goal.returns-in_err-declarator
returns-in_err-declarator c =
    let d = c.args.budget in
    let next = c.next_lower.ensures in
    let given = c.in_ok-specs.ensures in
    let part = c.in_ok-specs.specs.part in
    let within = within_next d c.next_lower.result part.height next.none next.less (some_height _ given.tree _ _ part given.read) given.low in
    gives_stop itself nothing_more _ _ _ _ _ _ _ c.in_err-declarator.field-0.0 c.from_residual-in_err-declarator.ensures (
    stops_before _ _ _ _ c.in_err-declarator.field-0.0
    (external_inside d c.next_lower.result c.args.self.now.names c.args.self.now.rest.now next.none next.lower ∙ found_then _ _ given.tree _ given.found_is
    ∙ external_declarator d c.next_lower-2.result (c.next_lower-2.ensures.lower (within_some part.height d within)) c.args.self.now.names c.specs.new.self.names given.tree c.specs.new.self.rest.now
    given.read.names_are (sym c.at_mark.ensures ∙ c.if-at_mark.false)) c.in_err-declarator.ensures)

pub returns-then-at_mark-2 : goal.returns-then-at_mark-2
returns-then-at_mark-2 c =
    let d = c.args.budget in
    let names = c.args.self.now.names in
    let next = c.next_lower.ensures in
    let specs = c.in_ok-specs.specs in
    let declarator = c.in_ok-declarator.declarator in
    let given = c.in_ok-specs.ensures in
    let s = given.tree in
    let more = c.in_ok-declarator.ensures in
    let x = more.tree in
    let within = within_next d c.next_lower.result specs.part.height next.none next.less (some_height _ s _ _ specs.part given.read) given.low in
    let declared : IsDeclared (after (after names s)) x (stack_of c.specs.new.self.trees) c.declared.new.self declarator = record {
      read = record { names_are = more.read.names_are ∙ ap (λ (n : Names). after n x) given.read.names_are; pushed = more.read.pushed };
      said = more.said;
    } in
    gives_within itself nothing_more _ _ _ d d (length c.declared.new.self.rest.now) (length c.args.self.now.rest.now) _ _ (omega arith)
    (let a = given.shorter in let b = more.shorter in omega (arith, a, b)) (
    gives_same itself nothing_more _ _ _ _ _ _ _ _
    (external_inside d c.next_lower.result names c.args.self.now.rest.now next.none next.lower ∙ found_then _ _ s _ given.found_is
    ∙ external_declarator d c.next_lower-2.result (c.next_lower-2.ensures.lower (within_some specs.part.height d within)) names c.specs.new.self.names s c.specs.new.self.rest.now
    given.read.names_are (sym c.at_mark.ensures ∙ c.if-at_mark.false) ∙ found_then _ _ x _ more.found_is
    ∙ function_here d (below d) names s x c.declared.new.self.rest.now (sym c.at_mark-2.ensures ∙ c.if-at_mark-2.true))
    (c.function.ensures names s x (stack_of c.args.self.now.trees) (stack_of c.specs.new.self.trees) given.read.pushed given.said declared))

pub returns : goal.returns
returns c =
    let d = c.args.budget in
    let names = c.args.self.now.names in
    let next = c.next_lower.ensures in
    let specs = c.in_ok-specs.specs in
    let declarator = c.in_ok-declarator.declarator in
    let given = c.in_ok-specs.ensures in
    let s = given.tree in
    let more = c.in_ok-declarator.ensures in
    let x = more.tree in
    let within = within_next d c.next_lower.result specs.part.height next.none next.less (some_height _ s _ _ specs.part given.read) given.low in
    let declared : IsDeclared (after (after names s)) x (stack_of c.specs.new.self.trees) c.declared.new.self declarator = record {
      read = record { names_are = more.read.names_are ∙ ap (λ (n : Names). after n x) given.read.names_are; pushed = more.read.pushed };
      said = more.said;
    } in
    gives_within itself nothing_more _ _ _ d d (length c.declared.new.self.rest.now) (length c.args.self.now.rest.now) _ _ (omega arith)
    (let a = given.shorter in let b = more.shorter in omega (arith, a, b)) (
    gives_same itself nothing_more _ _ _ _ _ _ _ _
    (external_inside d c.next_lower.result names c.args.self.now.rest.now next.none next.lower ∙ found_then _ _ s _ given.found_is
    ∙ external_declarator d c.next_lower-2.result (c.next_lower-2.ensures.lower (within_some specs.part.height d within)) names c.specs.new.self.names s c.specs.new.self.rest.now
    given.read.names_are (sym c.at_mark.ensures ∙ c.if-at_mark.false) ∙ found_then _ _ x _ more.found_is
    ∙ declaration_here d (below d) names s x c.declared.new.self.rest.now (sym c.at_mark-2.ensures ∙ c.if-at_mark-2.false))
    (c.declaration_from.ensures names s x (stack_of c.args.self.now.trees) (stack_of c.specs.new.self.trees) given.read.pushed given.said declared))
