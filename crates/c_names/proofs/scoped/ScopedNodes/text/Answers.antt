use Rattle.std.proofs.Common.{◌<◌, ◌∙◌, Some, ap, subst, sym}
use Rattle.c_typing.specs.Places.{text_at}
use Rattle.c_nodes.specs.Parents.{nodes_in}
use Rattle.c_names.specs.Denoted.{IsScoped}
use Rattle.c_names.proofs.PutLaws.{get_or_any}
use Rattle.c_names.proofs.TableLaws.{first_within}
use Rattle.c_names.proofs.scoped.ScopedNodes.text.Goals as goal

pub returns-clause-there : goal.returns-clause-there
returns-clause-there c =
    let v = c.self.inside in
    let k = subst (λ ns. IsScoped ns v.wholes.items v.next.items v.texts.items v.scopes.items v.inner.items) c.self.view_is c.self.invariant in
    let is = c.index.ensures ∙ get_or_any v.texts.items c.args.number c.index.result.now 0 (subst (λ n. c.args.number < n) (sym k.texts.long) c.requires.within) in
    first_within c.args.self.now v.wholes.items v.next.items v.texts.items v.scopes.items v.inner.items k (text_at (nodes_in c.args.self.now) c.args.number) c.index.result.now
    (k.texts.firsts c.args.number c.requires.within c.requires.named ∙ ap Some (sym is))
