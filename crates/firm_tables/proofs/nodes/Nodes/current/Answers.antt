use Rattle.std.proofs.Common.{◌∙◌, ap, length, arith, get_or}
use Rattle.firm_tables.proofs.NodeLaws.{node_there, seen_current}
use Rattle.firm_tables.proofs.nodes.Nodes.current.Goals as goal

pub list-requires : goal.list-requires
list-requires c = omega (arith, node_there c.self.inside.operands.uses c.self.inside.currents.uses c.self.inside.rows.items c.args.self.now c.args.number c.self.view_is c.requires, c.self.invariant.0.currents_cover.users)

pub bounds-list-0 : goal.bounds-list-0
bounds-list-0 c = omega (arith, ap length c.list.ensures, c.self.invariant.0.own c.args.number (node_there c.self.inside.operands.uses c.self.inside.currents.uses c.self.inside.rows.items c.args.self.now c.args.number c.self.view_is c.requires))

pub returns : goal.returns
returns c = ap (λ l. get_or l 0 0) c.list.ensures ∙ seen_current c.self.inside.operands.uses c.self.inside.currents.uses c.self.inside.rows.items c.args.self.now c.args.number c.self.view_is c.requires
