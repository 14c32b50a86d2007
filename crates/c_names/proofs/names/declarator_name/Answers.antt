use Rattle.std.proofs.Common.{◌≡◌, ◌<◌, ◌∙◌, ap, arith, refl, subst, sym, get_or, length}
use Rattle.c_typing.specs.Places.{kind_at, node_at, specs_by, specs_of}
use Rattle.c_typing.specs.Names.{entity_by}
use Rattle.c_nodes.specs.Parents.{nodes_in}
use Rattle.c_nodes.specs.Scopes.{scope_of}
use Rattle.c_names.specs.Denoted.{declares, places_in}
use Rattle.c_names.specs.Names.{IsWords, no_words}
use Rattle.c_names.proofs.FoundLaws.{parts, declarator_is}
use Rattle.c_names.proofs.names.declarator_name.Goals as goal

pub specs-requires : goal.specs-requires
specs-requires c =
    let b = c.requires.begins in
    let p = parts c.args.scoped.now b.derived c.args.behind c.requires.within b.nodes c.args.node b c.requires.kind in
    subst (λ o. o < length c.args.scoped.now) (sym c.parent-owner.ensures) p.there

pub bounds-words-specs : goal.bounds-words-specs
bounds-words-specs c =
    let b = c.requires.begins in
    let p = parts c.args.scoped.now b.derived c.args.behind c.requires.within b.nodes c.args.node b c.requires.kind in
    let low = p.low in
    let specs = p.specs in
    let count = c.requires.words.count in
    let is = c.specs.ensures.is ∙ ap (λ o. specs_by (nodes_in c.args.scoped.now) (node_at (nodes_in c.args.scoped.now) o) (kind_at (nodes_in c.args.scoped.now) o)) c.parent-owner.ensures in
    omega (arith, low, specs, count, is)

pub offset_bounds-words-specs : goal.offset_bounds-words-specs
offset_bounds-words-specs c =
    let within = bounds-words-specs c in
    omega (arith, within)

pub entity_by-entity-requires-clause-within : goal.entity_by-entity-requires-clause-within
entity_by-entity-requires-clause-within c =
    let b = c.requires.begins in
    let p = parts c.args.scoped.now b.derived c.args.behind c.requires.within b.nodes c.args.node b c.requires.kind in
    subst (λ o. o < length c.args.scoped.now) (sym c.parent-owner.ensures) p.there

pub entity_by-entity-requires-clause-declares : goal.entity_by-entity-requires-clause-declares
entity_by-entity-requires-clause-declares c =
    let b = c.requires.begins in
    let p = parts c.args.scoped.now b.derived c.args.behind c.requires.within b.nodes c.args.node b c.requires.kind in
    ap (λ o. declares (kind_at (nodes_in c.args.scoped.now) o)) c.parent-owner.ensures ∙ p.declares_it

pub entity_by-entity-requires-clause-numbered : goal.entity_by-entity-requires-clause-numbered
entity_by-entity-requires-clause-numbered c =
    let b = c.requires.begins in
    let p = parts c.args.scoped.now b.derived c.args.behind c.requires.within b.nodes c.args.node b c.requires.kind in
    subst (λ o. (node_at (nodes_in c.args.scoped.now) o).id ≡ o) (sym c.parent-owner.ensures) p.numbered

pub returns : goal.returns
returns c = λ b.
    let table = c.args.scoped.now in
    let p = parts table b.derived c.args.behind c.requires.within b.nodes c.args.node b c.requires.kind in
    let s = nodes_in table in
    let specs = c.specs.ensures.is ∙ ap (λ o. specs_by s (node_at s o) (kind_at s o)) c.parent-owner.ensures in
    let low = p.low in
    let under = p.specs in
    let count = c.requires.words.count in
    let within : c.specs.result < length c.args.words.now = omega (arith, specs, low, under, count) in
    let said = subst (λ k. IsWords s (places_in table).names (node_at s k) (get_or c.args.words.now c.specs.result no_words)) specs (c.requires.words.are c.specs.result (omega (arith, within, count))) in
    declarator_is table b.derived c.args.behind c.requires.within b.nodes c.args.node b p (record { behind = c.args.behind; owner = c.parent-owner.result; scope = c.scope_or_none-scope.result; entity = c.entity_by-entity.result; is_function = c.declares_function-is_function.result }) refl c.parent-owner.ensures c.scope_or_none-scope.ensures
    (c.declares_function-is_function.ensures (places_in table).names (specs_of s (node_at s (node_at s c.args.behind).parent)) said.says_function_type)
    (ap (λ o. entity_by s (node_at s o) (specs_of s (node_at s (node_at s c.args.behind).parent)) (scope_of c.scope_or_none-scope.result) c.declares_function-is_function.result (kind_at s o)) (sym c.parent-owner.ensures)
    ∙ c.entity_by-entity.ensures (specs_of s (node_at s (node_at s c.args.behind).parent)) said)
