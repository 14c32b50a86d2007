use Rattle.std.proofs.Common.{rules, ap}
use Rattle.firm_rules.specs.Graphs.{FirmNode}
use Rattle.firm_tables.proofs.NodeLaws.{node_there, seen_node}
use Rattle.firm_tables.proofs.nodes.Nodes.node.Goals as goal

pub index-requires : goal.index-requires
index-requires c = search (rules, node_there c.self.inside.operands.uses c.self.inside.currents.uses c.self.inside.rows.items c.args.self.now c.args.number c.self.view_is c.requires)

pub returns-clause-op : goal.returns-clause-op
returns-clause-op c =
    ap (λ (node : FirmNode). node.op)
    (seen_node c.self.inside.operands.uses c.self.inside.currents.uses c.self.inside.rows.items c.args.self.now c.args.number c.index.result.now c.self.view_is c.requires c.index.ensures)

pub returns-clause-block : goal.returns-clause-block
returns-clause-block c =
    ap (λ (node : FirmNode). node.block)
    (seen_node c.self.inside.operands.uses c.self.inside.currents.uses c.self.inside.rows.items c.args.self.now c.args.number c.index.result.now c.self.view_is c.requires c.index.ensures)
