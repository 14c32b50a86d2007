use Rattle.std.proofs.Common.{◌≡◌, ◌+◌, ◌<◌, ◌∷◌, drop, length, sym, subst}
use Rattle.c_typing.specs.Places.{node_at}
use Rattle.c_typing.specs.ShapesOfNodes.{in_table}
use Rattle.c_nodes.specs.Parents.{nodes_in}
use Rattle.c_nodes.proofs.ReadLaws.{node_is, id_is, cut_at}
use Rattle.c_nodes.proofs.nodes.Nodes.node.Goals as goal

within : (c : goal.After-node) → c.args.number < length c.self.inside.syntax.now
within c = subst (λ ns. c.args.number < length ns) (sym c.self.view_is) c.requires

pub returns-clause-is : goal.returns-clause-is
returns-clause-is c =
    subst (λ ns. c.node.result.now ≡ in_table (node_at (nodes_in ns) c.args.number)) c.self.view_is
    (node_is c.self.inside.syntax.now c.self.inside.parents.items c.self.invariant c.args.number c.node.result.now c.node.ensures)

pub returns-clause-numbered : goal.returns-clause-numbered
returns-clause-numbered c =
    subst (λ ns. (node_at (nodes_in ns) c.args.number).id ≡ c.args.number) c.self.view_is
    (id_is c.self.inside.syntax.now c.self.inside.parents.items c.self.invariant c.args.number (within c))

pub returns-clause-later : goal.returns-clause-later
returns-clause-later c =
    subst (λ ns. drop c.args.number (nodes_in ns) ≡ node_at (nodes_in ns) c.args.number ∷ drop (c.args.number + 1) (nodes_in ns)) c.self.view_is
    (cut_at c.self.inside.syntax.now c.self.inside.parents.items c.self.invariant c.args.number (within c))
