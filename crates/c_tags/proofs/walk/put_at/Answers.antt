use Rattle.std.proofs.Common.{◌≡◌, ◌<◌, ◌++◌, ◌∷◌, [], ◌∙◌, Bool, Option, None, Some, ap, get_or, refl, subst, sym}
use Rattle.std.proofs.lemmas.Result.{on_ok_weaker}
use Rattle.c_typing.specs.Places.{text_at}
use Rattle.c_nodes.specs.Parents.{nodes_in}
use Rattle.std.specs.Prelude.{filter, slice_set}
use Rattle.c_tags.specs.Chains.{chains_of, seen_at, stays}
use Rattle.c_tags.specs.Tags.{tag_kind, tag_in_scope, tags_before_place}
use Rattle.c_tags.proofs.ChainLaws.{chain_at, chain_within, with_chain}
use Rattle.c_tags.proofs.TagLaws.{place_within, number_within, numbered_there, put_other, put_nameless, seen_there, names_there, put_more}
use Rattle.c_tags.proofs.walk.put_at.Goals as goal

none_kind : (o : Option Bool) → ((b : Bool) → o ≡ Some b → ⊥) → o ≡ None
none_kind None h = refl
none_kind (Some b) h = absurd (h b refl)

pub bounds-order-place : goal.bounds-order-place
bounds-order-place c = place_within c.args.nodes.now c.args.order.now c.args.place (chains_of c.args.chains.now) c.args.bodies.now c.args.found.now c.requires.order c.requires.within c.requires.stand

pub returns-in_default : goal.returns-in_default
returns-in_default c =
    put_other c.args.nodes.now c.args.order.now c.args.place (chains_of c.args.chains.now) c.args.bodies.now c.args.found.now c.requires.order c.requires.within c.requires.stand
    (ap tag_kind (sym c.kind_at.ensures) ∙ (sym c.tag_kind.ensures ∙ none_kind c.tag_kind.result c.in_default.not-Some))

pub is_nameless-requires : goal.is_nameless-requires
is_nameless-requires c = number_within c.args.nodes.now c.args.order.now c.args.place (chains_of c.args.chains.now) c.args.bodies.now c.args.found.now c.requires.order c.requires.within c.requires.stand

pub returns-then-is_nameless : goal.returns-then-is_nameless
returns-then-is_nameless c =
    put_nameless c.args.nodes.now c.args.order.now c.args.place (chains_of c.args.chains.now) c.args.bodies.now c.args.found.now c.requires.order c.requires.within c.requires.stand
    c.in-Some.is_enum (ap tag_kind (sym c.kind_at.ensures) ∙ (sym c.tag_kind.ensures ∙ c.in-Some.is)) (sym c.is_nameless.ensures ∙ c.if-is_nameless.true)

pub text-text-requires-clause-within : goal.text-text-requires-clause-within
text-text-requires-clause-within c = number_within c.args.nodes.now c.args.order.now c.args.place (chains_of c.args.chains.now) c.args.bodies.now c.args.found.now c.requires.order c.requires.within c.requires.stand

pub met_at-met-requires-clause-within : goal.met_at-met-requires-clause-within
met_at-met-requires-clause-within c = number_within c.args.nodes.now c.args.order.now c.args.place (chains_of c.args.chains.now) c.args.bodies.now c.args.found.now c.requires.order c.requires.within c.requires.stand

pub met_at-met-requires-clause-numbered : goal.met_at-met-requires-clause-numbered
met_at-met-requires-clause-numbered c = numbered_there c.args.nodes.now c.args.order.now c.args.place (chains_of c.args.chains.now) c.args.bodies.now c.args.found.now c.requires.order c.requires.within c.requires.stand

pub has_kid-requires : goal.has_kid-requires
has_kid-requires c = number_within c.args.nodes.now c.args.order.now c.args.place (chains_of c.args.chains.now) c.args.bodies.now c.args.found.now c.requires.order c.requires.within c.requires.stand

pub put_tag-requires-clause-within : goal.put_tag-requires-clause-within
put_tag-requires-clause-within c =
    subst (λ n. get_or c.args.order.now c.args.place 0 < n) (sym c.requires.stand.found_long) (number_within c.args.nodes.now c.args.order.now c.args.place (chains_of c.args.chains.now) c.args.bodies.now c.args.found.now c.requires.order c.requires.within c.requires.stand)

pub put_tag-requires-clause-names : goal.put_tag-requires-clause-names
put_tag-requires-clause-names c =
    let text = c.text-text.result in
    let number = get_or c.args.order.now c.args.place 0 in
    let there = seen_there c.args.nodes.now c.args.order.now c.args.place (chains_of c.args.chains.now) c.args.bodies.now c.args.found.now c.requires.order c.requires.within c.requires.stand text c.text-text.ensures.is in
    let low = chain_within c.args.nodes.now c.args.chains.now text c.requires.stand.chains_long c.text-text.ensures.there in
    names_there c.args.nodes.now c.args.order.now c.args.place (chains_of c.args.chains.now) c.args.bodies.now c.args.found.now c.requires.order c.requires.within c.requires.stand c.in-Some.is_enum c.met_at-met.result
    (c.met_at-met.ensures (tag_in_scope (tags_before_place c.args.nodes.now c.args.place) (text_at (nodes_in c.args.nodes.now) number) number)
    (ap (λ xs. seen_at xs number) (c.deref.ensures.value ∙ sym (chain_at c.args.chains.now text c.index-chains-text.result low)) ∙ there))

pub first-requires : goal.first-requires
first-requires c = number_within c.args.nodes.now c.args.order.now c.args.place (chains_of c.args.chains.now) c.args.bodies.now c.args.found.now c.requires.order c.requires.within c.requires.stand

pub returns : goal.returns
returns c =
    let text = c.text-text.result in
    let number = get_or c.args.order.now c.args.place 0 in
    let there = seen_there c.args.nodes.now c.args.order.now c.args.place (chains_of c.args.chains.now) c.args.bodies.now c.args.found.now c.requires.order c.requires.within c.requires.stand text c.text-text.ensures.is in
    let low = chain_within c.args.nodes.now c.args.chains.now text c.requires.stand.chains_long c.text-text.ensures.there in
    on_ok_weaker c.enter.result (λ entered.
    put_more c.args.nodes.now c.args.order.now c.args.place (chains_of c.args.chains.now) c.args.bodies.now c.args.found.now c.requires.order c.requires.within c.requires.stand
    c.in-Some.is_enum text c.met_at-met.result c.first.result c.has_kid.result c.enter.new.chain.items (chains_of (slice_set c.args.chains.now text c.enter.new.chain)) c.put_tag.new.bodies c.put_tag.new.found
    (ap tag_kind (sym c.kind_at.ensures) ∙ (sym c.tag_kind.ensures ∙ c.in-Some.is)) (sym c.is_nameless.ensures ∙ c.if-is_nameless.false) c.text-text.ensures.is
    (c.met_at-met.ensures (tag_in_scope (tags_before_place c.args.nodes.now c.args.place) (text_at (nodes_in c.args.nodes.now) number) number)
    (ap (λ xs. seen_at xs number) (c.deref.ensures.value ∙ sym (chain_at c.args.chains.now text c.index-chains-text.result low)) ∙ there))
    c.first.ensures c.has_kid.ensures
    (entered ∙ ap (λ xs. filter (stays c.first.result c.met_at-met.result.entry.scope) xs ++ c.met_at-met.result.entry ∷ []) (sym (chain_at c.args.chains.now text c.index-chains-text-2.result low)))
    (with_chain c.args.chains.now text c.enter.new.chain) c.put_tag.ensures.bodies c.put_tag.ensures.found) c.enter.ensures
