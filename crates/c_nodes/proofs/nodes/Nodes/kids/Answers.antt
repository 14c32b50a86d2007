use Rattle.std.proofs.Common.{◌≡◌, ◌<◌, ◌∙◌, ap, sym, subst, length, get_or}
use Rattle.c_typing.specs.Places.{node_at, numbers}
use Rattle.c_nodes.specs.Parents.{nodes_in, IsWithin}
use Rattle.c_nodes.proofs.ReadLaws.{kids_are, kids_before}
use Rattle.c_nodes.proofs.nodes.Nodes.kids.Goals as goal

pub returns-clause-are : goal.returns-clause-are
returns-clause-are c =
    ap numbers c.as_slice.ensures
    ∙ ap (λ ns. numbers (get_or ns c.args.number c.index-nodes-number.result).kids) c.nodes.ensures.all
    ∙ subst (λ ns. numbers (get_or c.self.inside.syntax.now c.args.number c.index-nodes-number.result).kids ≡ (node_at (nodes_in ns) c.args.number).kids) c.self.view_is
    (kids_are c.self.inside.syntax.now c.self.inside.parents.items c.self.invariant c.args.number c.index-nodes-number.result
    (subst (λ ns. c.args.number < length ns) (sym c.self.view_is) c.requires))

pub returns-clause-before : goal.returns-clause-before
returns-clause-before c =
    subst (IsWithin c.args.number) (sym c.as_slice.ensures)
    (kids_before c.nodes.result.now c.args.number c.index-nodes-number.result c.nodes.ensures.order
    (subst (λ ns. c.args.number < length ns) (sym (c.nodes.ensures.all ∙ c.self.view_is)) c.requires))
