use Rattle.std.proofs.Common.{◌<◌, ◌∙◌, Some, ap, subst, sym}
use Rattle.c_typing.specs.Places.{text_at}
use Rattle.c_nodes.specs.Parents.{nodes_in}
use Rattle.c_names.proofs.PutLaws.{get_or_any}
use Rattle.c_tags.specs.Tagged.{IsTagged}
use Rattle.c_tags.proofs.TaggedLaws.{first_within}
use Rattle.c_tags.proofs.tagged.TaggedNodes.text.Goals as goal

pub returns-clause-there : goal.returns-clause-there
returns-clause-there c =
    let v = c.self.inside in
    let table = c.args.self.now in
    let k = subst (λ ns. IsTagged ns v.spans.items v.inner.items v.texts.items) c.self.view_is c.self.invariant in
    let is = c.index.ensures ∙ get_or_any v.texts.items c.args.number c.index.result.now 0 (subst (λ n. c.args.number < n) (sym k.alike.long) c.requires.within) in
    subst (λ n. c.index.result.now < n) k.nodes
    (first_within (nodes_in table) k.numbered (text_at (nodes_in table) c.args.number) c.index.result.now (k.alike.firsts c.args.number c.requires.within c.requires.named ∙ ap Some (sym is)))
