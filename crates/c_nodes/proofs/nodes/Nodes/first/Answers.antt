use Rattle.std.proofs.Common.{◌≡◌, ◌<◌, length, subst, sym}
use Rattle.c_typing.specs.Places.{node_at}
use Rattle.c_nodes.specs.Parents.{nodes_in}
use Rattle.c_nodes.proofs.ReadLaws.{first_is, low_is}
use Rattle.c_nodes.proofs.nodes.Nodes.first.Goals as goal

pub returns-clause-is : goal.returns-clause-is
returns-clause-is c =
    subst (λ ns. c.first.result.number ≡ (node_at (nodes_in ns) c.args.number).first) c.self.view_is
    (first_is c.self.inside.syntax.now c.self.inside.parents.items c.self.invariant c.args.number c.first.result.number
    (subst (λ ns. c.args.number < length ns) (sym c.self.view_is) c.requires) c.first.ensures)

pub returns-clause-low : goal.returns-clause-low
returns-clause-low c =
    low_is c.self.inside.syntax.now c.self.inside.parents.items c.self.invariant c.args.number c.first.result.number
    (subst (λ ns. c.args.number < length ns) (sym c.self.view_is) c.requires) c.first.ensures
