use Rattle.std.proofs.Common.{ap, length, arith}
use Rattle.firm_tables.proofs.NodeLaws.{nodes_long}
use Rattle.firm_tables.proofs.nodes.Nodes.len.Goals as goal

pub returns : goal.returns
returns c = omega (arith, c.len.ensures, ap length c.self.view_is, nodes_long 0 c.self.inside.operands.uses c.self.inside.currents.uses c.self.inside.rows.items)
