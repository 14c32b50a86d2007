use Rattle.std.proofs.Common.{◌∙◌, ap, arith}
use Rattle.firm_uses.specs.Counts.{times}
use Rattle.firm_tables.proofs.NodeLaws.{node_there, seen_operands}
use Rattle.firm_tables.proofs.nodes.Nodes.users.Goals as goal

pub users-requires : goal.users-requires
users-requires c = omega (arith, node_there c.self.inside.operands.uses c.self.inside.currents.uses c.self.inside.rows.items c.args.self.now c.args.number c.self.view_is c.requires, c.self.invariant.0.operands_cover.used_ones)

pub returns : goal.returns
returns c = λ user. c.users.ensures user ∙ ap (times c.args.number) (seen_operands c.self.inside.operands.uses c.self.inside.currents.uses c.self.inside.rows.items c.args.self.now user c.self.view_is c.self.invariant.0.empty)
