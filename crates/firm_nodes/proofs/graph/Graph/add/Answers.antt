use Rattle.std.proofs.Common.{ap, length}
use Rattle.firm_rules.specs.Graphs.{Firm, operands_of}
use Rattle.firm_nodes.proofs.LikeLaws.{operands_within}
use Rattle.firm_nodes.proofs.graph.Graph.add.Goals as goal

pub like-requires : goal.like-requires
like-requires c =
    operands_within c.args.self.now (operands_of c.args.op) c.args.operands.now (length c.self.inside.nodes) (ap (λ (g : Firm). length g.nodes) c.self.view_is) c.requires.operands

pub add-requires : goal.add-requires
add-requires c =
    operands_within c.args.self.now (operands_of c.args.op) c.args.operands.now (length c.self.inside.nodes) (ap (λ (g : Firm). length g.nodes) c.self.view_is) c.requires.operands
