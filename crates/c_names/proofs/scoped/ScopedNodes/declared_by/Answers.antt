use Rattle.std.proofs.Common.{◌∙◌, ap, subst, sym, true≢false}
use Rattle.c_typing.specs.Places.{kind_at, node_at}
use Rattle.c_nodes.specs.Parents.{nodes_in}
use Rattle.c_nodes.specs.Declarators.{Points, whole_of}
use Rattle.c_names.specs.Denoted.{IsScoped, is_identifier, declares}
use Rattle.c_names.proofs.TableLaws.{begins_declarator, nothing_begins}
use Rattle.c_names.proofs.scoped.ScopedNodes.declared_by.Goals as goal

pub returns-then-not-is_identifier : goal.returns-then-not-is_identifier
returns-then-not-is_identifier c =
    let v = c.self.inside in
    let k = subst (λ ns. IsScoped ns v.wholes.items v.next.items v.texts.items v.scopes.items v.inner.items) c.self.view_is c.self.invariant in
    let first = c.kind_at.ensures ∙ ap (λ ns. kind_at (nodes_in ns) c.args.first) c.self.view_is in
    nothing_begins c.args.self.now v.wholes.items v.next.items v.texts.items v.scopes.items v.inner.items k c.args.whole c.args.whole
    (subst (λ i. Points (nodes_in c.args.self.now) c.args.whole (whole_of (nodes_in c.args.self.now) i)) c.requires.first c.requires.whole) c.requires.other
    (λ same ident owns. true≢false (sym ident ∙ (ap (λ i. is_identifier (kind_at (nodes_in c.args.self.now) i)) (sym c.requires.first) ∙ (ap is_identifier (sym first) ∙ (sym c.is_identifier.ensures ∙ c.if-not-is_identifier.true)))))

pub returns-then-declares : goal.returns-then-declares
returns-then-declares c =
    let v = c.self.inside in
    let k = subst (λ ns. IsScoped ns v.wholes.items v.next.items v.texts.items v.scopes.items v.inner.items) c.self.view_is c.self.invariant in
    let first = c.kind_at.ensures ∙ ap (λ ns. kind_at (nodes_in ns) c.args.first) c.self.view_is in
    let parent = c.parent.ensures ∙ ap (λ ns. (node_at (nodes_in ns) c.args.whole).parent) c.self.view_is in
    let owner = c.kind_at-2.ensures ∙ ap (λ ns. kind_at (nodes_in ns) c.parent.result) c.self.view_is in
    begins_declarator c.args.self.now v.wholes.items v.next.items v.texts.items v.scopes.items v.inner.items k c.args.whole c.args.first c.requires.within c.requires.first c.requires.low c.requires.whole c.requires.other
    (ap is_identifier (sym first) ∙ (sym c.is_identifier.ensures ∙ c.if-not-is_identifier.false))
    (ap (λ i. declares (kind_at (nodes_in c.args.self.now) i)) (sym parent) ∙ (ap declares (sym owner) ∙ (sym c.declares.ensures ∙ c.if-declares.true)))

pub returns-else-declares : goal.returns-else-declares
returns-else-declares c =
    let v = c.self.inside in
    let k = subst (λ ns. IsScoped ns v.wholes.items v.next.items v.texts.items v.scopes.items v.inner.items) c.self.view_is c.self.invariant in
    let parent = c.parent.ensures ∙ ap (λ ns. (node_at (nodes_in ns) c.args.whole).parent) c.self.view_is in
    let owner = c.kind_at-2.ensures ∙ ap (λ ns. kind_at (nodes_in ns) c.parent.result) c.self.view_is in
    nothing_begins c.args.self.now v.wholes.items v.next.items v.texts.items v.scopes.items v.inner.items k c.args.whole c.args.whole
    (subst (λ i. Points (nodes_in c.args.self.now) c.args.whole (whole_of (nodes_in c.args.self.now) i)) c.requires.first c.requires.whole) c.requires.other
    (λ same ident owns. true≢false (sym owns ∙ (ap (λ i. declares (kind_at (nodes_in c.args.self.now) i)) (sym parent) ∙ (ap declares (sym owner) ∙ (sym c.declares.ensures ∙ c.if-declares.false)))))
