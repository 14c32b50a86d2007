use Rattle.std.proofs.Common.{◌∙◌, arith}
use Rattle.firm_tables.proofs.NodeLaws.{node_there, seen_operands}
use Rattle.firm_tables.proofs.nodes.Nodes.operands.Goals as goal

pub list-requires : goal.list-requires
list-requires c = omega (arith, node_there c.self.inside.operands.uses c.self.inside.currents.uses c.self.inside.rows.items c.args.self.now c.args.number c.self.view_is c.requires, c.self.invariant.0.operands_cover.users)

pub returns : goal.returns
returns c = c.list.ensures ∙ seen_operands c.self.inside.operands.uses c.self.inside.currents.uses c.self.inside.rows.items c.args.self.now c.args.number c.self.view_is c.self.invariant.0.empty
