use Rattle.std.proofs.Common.{◌<◌, ◌∙◌, ap, arith, get_or, subst, sym}
use Rattle.c_typing.specs.Places.{kind_at, node_at}
use Rattle.c_nodes.specs.Parents.{nodes_in}
use Rattle.c_nodes.specs.Declarators.{Points, whole_of}
use Rattle.c_names.specs.Denoted.{IsScoped, is_enumerator}
use Rattle.c_names.proofs.PutLaws.{get_or_any}
use Rattle.c_names.proofs.TableLaws.{begins_enumerator, nothing_begins}
use Rattle.c_names.proofs.scoped.ScopedNodes.begun.Goals as goal

pub returns-then-is_enumerator : goal.returns-then-is_enumerator
returns-then-is_enumerator c =
    let v = c.self.inside in
    let k = subst (λ ns. IsScoped ns v.wholes.items v.next.items v.texts.items v.scopes.items v.inner.items) c.self.view_is c.self.invariant in
    let kind = c.kind_at.ensures ∙ ap (λ ns. kind_at (nodes_in ns) c.args.number) c.self.view_is in
    begins_enumerator c.args.self.now v.wholes.items v.next.items v.texts.items v.scopes.items v.inner.items k c.args.number c.requires
    (ap is_enumerator (sym kind) ∙ (sym c.is_enumerator.ensures ∙ c.if-is_enumerator.true))

pub returns-else-index-number : goal.returns-else-index-number
returns-else-index-number c =
    let v = c.self.inside in
    let k = subst (λ ns. IsScoped ns v.wholes.items v.next.items v.texts.items v.scopes.items v.inner.items) c.self.view_is c.self.invariant in
    let kind = c.kind_at.ensures ∙ ap (λ ns. kind_at (nodes_in ns) c.args.number) c.self.view_is in
    let first = c.first-first.ensures.is ∙ ap (λ ns. (node_at (nodes_in ns) c.args.number).first) c.self.view_is in
    let low = c.first-first.ensures.low in
    let within = c.requires in
    nothing_begins c.args.self.now v.wholes.items v.next.items v.texts.items v.scopes.items v.inner.items k c.args.number (get_or v.wholes.items c.first-first.result 0)
    (subst (λ i. Points (nodes_in c.args.self.now) (get_or v.wholes.items c.first-first.result 0) (whole_of (nodes_in c.args.self.now) i)) first (k.wholes.points c.first-first.result (omega (arith, low, within))))
    (ap is_enumerator (sym kind) ∙ (sym c.is_enumerator.ensures ∙ c.if-is_enumerator.false))
    (λ same ident owns. c.if-index-number.false (c.index.ensures ∙ (get_or_any v.wholes.items c.first-first.result c.index.result.now 0 (subst (λ n. c.first-first.result < n) (sym k.wholes.long) (omega (arith, low, within))) ∙ same)))
