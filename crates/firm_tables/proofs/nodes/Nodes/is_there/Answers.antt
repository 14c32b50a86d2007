use Rattle.std.proofs.Common.{rules, ap}
use Rattle.firm_rules.specs.Graphs.{FirmNode}
use Rattle.firm_tables.proofs.NodeLaws.{node_there, seen_node}
use Rattle.firm_tables.proofs.nodes.Nodes.is_there.Goals as goal

pub index-requires : goal.index-requires
index-requires c = search (rules, node_there c.self.inside.operands.uses c.self.inside.currents.uses c.self.inside.rows.items c.args.self.now c.args.number c.self.view_is c.requires)

pub returns : goal.returns
returns c =
    ap (λ (node : FirmNode). node.there)
    (seen_node c.self.inside.operands.uses c.self.inside.currents.uses c.self.inside.rows.items c.args.self.now c.args.number c.index.result.now c.self.view_is c.requires c.index.ensures)
