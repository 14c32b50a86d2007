use Rattle.std.proofs.Common.{◌<◌, ◌∙◌, ap, arith, get_or, length, subst}
use Rattle.c_nodes.specs.Scopes.{scope_of}
use Rattle.c_names.proofs.PutLaws.{get_or_any}
use Rattle.c_tags.specs.Tagged.{IsTagged}
use Rattle.c_tags.proofs.TaggedLaws.{inner_long, scope_there, scope_absent}
use Rattle.c_tags.proofs.tagged.TaggedNodes.scope.Goals as goal

pub index-index-requires : goal.index-index-requires
index-index-requires c =
    let v = c.self.inside in
    let k = subst (λ ns. IsTagged ns v.spans.items v.inner.items v.texts.items) c.self.view_is c.self.invariant in
    let long = inner_long c.args.self.now v.spans.items v.inner.items v.texts.items k in
    let within = c.requires in
    omega (arith, long, within, v.inner.ok.0)

pub returns-then-index-len : goal.returns-then-index-len
returns-then-index-len c =
    let v = c.self.inside in
    let k = subst (λ ns. IsTagged ns v.spans.items v.inner.items v.texts.items) c.self.view_is c.self.invariant in
    let long = inner_long c.args.self.now v.spans.items v.inner.items v.texts.items k in
    let within = c.requires in
    let index = c.index-index.ensures ∙ get_or_any v.inner.items c.args.number c.index-index.result.now 0 (omega (arith, long, within)) in
    let low : get_or v.inner.items c.args.number 0 < length v.spans.items = (let less = c.if-index-len.true in let same = c.len.ensures in omega (arith, index, less, same, v.spans.ok.0)) in
    ap scope_of (c.index.ensures ∙ ap (λ i. get_or v.spans.items i c.index.result.now) index)
    ∙ scope_there c.args.self.now v.spans.items v.inner.items v.texts.items k c.args.number c.index.result.now c.requires low

pub returns-else-index-len : goal.returns-else-index-len
returns-else-index-len c =
    let v = c.self.inside in
    let k = subst (λ ns. IsTagged ns v.spans.items v.inner.items v.texts.items) c.self.view_is c.self.invariant in
    let long = inner_long c.args.self.now v.spans.items v.inner.items v.texts.items k in
    let within = c.requires in
    let index = c.index-index.ensures ∙ get_or_any v.inner.items c.args.number c.index-index.result.now 0 (omega (arith, long, within)) in
    scope_absent c.args.self.now v.spans.items v.inner.items v.texts.items k c.args.number c.requires (let most = c.if-index-len.false in let same = c.len.ensures in omega (arith, index, most, same, v.spans.ok.0))
