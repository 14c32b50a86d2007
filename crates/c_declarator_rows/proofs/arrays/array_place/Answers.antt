use Rattle.std.proofs.Common.{◌<◌, ap, subst, sym, ◌∙◌}
use Rattle.c_typing.specs.Places.{Node, node_at, whole_declarator}
use Rattle.c_nodes.specs.Parents.{nodes_in}
use Rattle.c_nodes.proofs.ScopeLaws.{there_by_kind}
use Rattle.c_declarator_rows.specs.Arrays.{may_give, place_by}
use Rattle.c_declarator_rows.proofs.ArrayLaws.{apart, in_initialized, in_other, in_parameter}
use Rattle.c_declarator_rows.proofs.arrays.array_place.Goals as goal

pub returns-then-not-is_next_to_name : goal.returns-then-not-is_next_to_name
returns-then-not-is_next_to_name c = apart c.args.nodes.now c.args.node (sym c.is_next_to_name.ensures ∙ c.if-not-is_next_to_name.true)

pub initialized_place-requires-clause-within : goal.initialized_place-requires-clause-within
initialized_place-requires-clause-within c =
    let there = there_by_kind (nodes_in c.args.nodes.now) c.owner_of-owner.result (λ e. absurd (cc (sym (sym c.kind_at.ensures ∙ c.in-InitDecl.is) ∙ e))) in
    subst (λ n. c.owner_of-owner.result < n) c.requires.next.nodes there

pub returns-in-Param : goal.returns-in-Param
returns-in-Param c =
    let s = nodes_in c.args.nodes.now in
    let at = ap (node_at s) (c.owner_of-owner.ensures ∙ ap (λ i. (whole_declarator s i).parent) c.first.ensures.is) in
    in_parameter c.args.nodes.now c.args.node (sym c.is_next_to_name.ensures ∙ c.if-not-is_next_to_name.false) (ap (λ (o : Node). o.label.kind) (sym at) ∙ (sym c.kind_at.ensures ∙ c.in-Param.is))

pub returns-in-InitDecl : goal.returns-in-InitDecl
returns-in-InitDecl c =
    let s = nodes_in c.args.nodes.now in
    let at = ap (node_at s) (c.owner_of-owner.ensures ∙ ap (λ i. (whole_declarator s i).parent) c.first.ensures.is) in
    in_initialized c.args.nodes.now c.args.node (sym c.is_next_to_name.ensures ∙ c.if-not-is_next_to_name.false) c.initialized_place.result (ap (λ (o : Node). o.label.kind) (sym at) ∙ (sym c.kind_at.ensures ∙ c.in-InitDecl.is))
    (c.initialized_place.ensures ∙ ap (λ o. place_by (may_give s o)) at)

pub returns-in_default : goal.returns-in_default
returns-in_default c =
    let s = nodes_in c.args.nodes.now in
    let at = ap (node_at s) (c.owner_of-owner.ensures ∙ ap (λ i. (whole_declarator s i).parent) c.first.ensures.is) in
    in_other c.args.nodes.now c.args.node (sym c.is_next_to_name.ensures ∙ c.if-not-is_next_to_name.false) c.kind_at.result (ap (λ (o : Node). o.label.kind) (sym at) ∙ sym c.kind_at.ensures) c.in_default.not-Param c.in_default.not-InitDecl
