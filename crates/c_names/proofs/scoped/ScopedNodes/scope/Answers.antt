use Rattle.std.proofs.Common.{◌<◌, ◌∙◌, Some, ap, get_or, length, subst, sym, arith}
use Rattle.c_names.specs.Denoted.{IsScoped, IsScopeAt}
use Rattle.c_names.proofs.PutLaws.{get_or_any}
use Rattle.c_names.proofs.TableLaws.{scope_found, scope_missing, inner_long}
use Rattle.c_names.proofs.scoped.ScopedNodes.scope.Goals as goal

pub index-index-requires : goal.index-index-requires
index-index-requires c =
    let v = c.self.inside in
    let k = subst (λ ns. IsScoped ns v.wholes.items v.next.items v.texts.items v.scopes.items v.inner.items) c.self.view_is c.self.invariant in
    let long = inner_long c.args.self.now v.wholes.items v.next.items v.texts.items v.scopes.items v.inner.items k in
    let within = c.requires in
    omega (arith, long, within, c.self.inside.inner.ok.0)

pub returns-then-index-len : goal.returns-then-index-len
returns-then-index-len c =
    let v = c.self.inside in
    let k = subst (λ ns. IsScoped ns v.wholes.items v.next.items v.texts.items v.scopes.items v.inner.items) c.self.view_is c.self.invariant in
    let long = inner_long c.args.self.now v.wholes.items v.next.items v.texts.items v.scopes.items v.inner.items k in
    let within = c.requires in
    let index = c.index-index.ensures ∙ get_or_any v.inner.items c.args.number c.index-index.result.now 0 (omega (arith, long, within)) in
    let low : get_or v.inner.items c.args.number 0 < length v.scopes.items = (let less = c.if-index-len.true in let same = c.len.ensures in omega (arith, index, less, same, v.scopes.ok.0)) in
    subst (λ span. IsScopeAt c.args.self.now c.args.number (Some span)) (sym (c.index.ensures ∙ ap (λ i. get_or v.scopes.items i c.index.result.now) index))
    (scope_found c.args.self.now v.wholes.items v.next.items v.texts.items v.scopes.items v.inner.items k c.args.number c.index.result.now c.requires low)

pub returns-else-index-len : goal.returns-else-index-len
returns-else-index-len c =
    let v = c.self.inside in
    let k = subst (λ ns. IsScoped ns v.wholes.items v.next.items v.texts.items v.scopes.items v.inner.items) c.self.view_is c.self.invariant in
    let long = inner_long c.args.self.now v.wholes.items v.next.items v.texts.items v.scopes.items v.inner.items k in
    let within = c.requires in
    let index = c.index-index.ensures ∙ get_or_any v.inner.items c.args.number c.index-index.result.now 0 (omega (arith, long, within)) in
    scope_missing c.args.self.now v.wholes.items v.next.items v.texts.items v.scopes.items v.inner.items k c.args.number c.requires (let most = c.if-index-len.false in let same = c.len.ensures in omega (arith, index, most, same, v.scopes.ok.0))
