use Rattle.std.proofs.Common.{◌≡◌, ◌<◌, ap, length, subst, arith}
use Rattle.std.proofs.lemmas.Grind.{common_steps}
use Rattle.c_nodes.specs.Parents.{AreNumbered, nodes_in}
use Rattle.c_nodes.proofs.ReadLaws.{kept_long, nodes_long, id_is}
use Rattle.c_nodes.proofs.nodes.Nodes.len.Goals as goal

pub returns-clause-is : goal.returns-clause-is
returns-clause-is c =
    let long = kept_long c.self.inside.syntax.now c.self.inside.parents.items c.self.invariant in
    let same : length c.self.inside.syntax.now ≡ length c.args.self.now = ap length c.self.view_is in
    grind (arith, common_steps)

pub returns-clause-nodes : goal.returns-clause-nodes
returns-clause-nodes c =
    subst (λ ns. length (nodes_in ns) ≡ length ns) c.self.view_is (nodes_long c.self.inside.syntax.now c.self.inside.parents.items c.self.invariant)

pub returns-clause-numbered : goal.returns-clause-numbered
returns-clause-numbered c =
    subst (λ ns. AreNumbered (nodes_in ns)) c.self.view_is
    (λ n within. id_is c.self.inside.syntax.now c.self.inside.parents.items c.self.invariant n
    (subst (λ k. n < k) (nodes_long c.self.inside.syntax.now c.self.inside.parents.items c.self.invariant) within))
