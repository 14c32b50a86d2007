use Rattle.std.proofs.Common.{◌≡◌, ◌<◌, ◌∙◌, ap, length, get_or, subst, sym, arith}
use Rattle.std.proofs.lemmas.Grind.{common_steps}
use Rattle.c_typing.specs.Places.{index_in, parent_of}
use Rattle.c_nodes.specs.declared.nodes.Parent.{Parent}
use Rattle.c_nodes.specs.Parents.{nodes_in}
use Rattle.c_nodes.proofs.ReadLaws.{index_is, kept_long}
use Rattle.c_nodes.proofs.nodes.Nodes.index.Goals as goal

pub index-requires : goal.index-requires
index-requires c =
    let long = kept_long c.self.inside.syntax.now c.self.inside.parents.items c.self.invariant in
    let given = subst (λ ns. c.args.number < length ns) (sym c.self.view_is) c.requires in
    grind (arith, common_steps)

pub returns : goal.returns
returns c =
    ap (λ (p : Parent). p.index) c.index.ensures
    ∙ subst (λ ns. (get_or c.self.inside.parents.items c.args.number c.index.result.now).index ≡ index_in (parent_of (nodes_in ns) c.args.number).kids c.args.number) c.self.view_is
    (index_is c.self.inside.syntax.now c.self.inside.parents.items c.self.invariant c.args.number c.index.result.now
    (subst (λ ns. c.args.number < length ns) (sym c.self.view_is) c.requires))
