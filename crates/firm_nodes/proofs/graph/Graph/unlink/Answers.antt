use Rattle.std.proofs.Common.{◌<◌, subst, length}
use Rattle.firm_nodes.specs.Kept.{graph_of}
use Rattle.firm_nodes.proofs.EdgeLaws.{lost_within, unlink_done}
use Rattle.firm_nodes.proofs.graph.Graph.unlink.Goals as goal

pub lose-requires-clause-within : goal.lose-requires-clause-within
lose-requires-clause-within c =
    subst (λ l. c.in-Some-place_of.place < length l) c.preds.ensures (lost_within c.args.earlier c.args.from c.in-Some-place_of.place c.preds.result.now c.in-Some-place_of.ensures)

pub returns : goal.returns
returns c =
    unlink_done (graph_of c.self.inside.name c.self.inside.params c.self.inside.order.items c.self.inside.blocks c.self.inside.nodes) c.args.self.now c.lose.new.self c.lose_operands.new.self c.args.from c.in-Some.to c.in-Some-place_of.place c.args.earlier c.args.to c.preds.result.now
    c.self.view_is c.in-Some.is c.preds.ensures c.in-Some-place_of.ensures c.lose.ensures c.lose_operands.ensures
