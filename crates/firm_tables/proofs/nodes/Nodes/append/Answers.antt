use Rattle.std.proofs.Common.{◌++◌, ◌∷◌, [], arith}
use Rattle.cp_obstack.specs.Lists.{list_of}
use Rattle.firm_tables.proofs.NodeLaws.{node_there, held_ok, operands_change}
use Rattle.firm_tables.proofs.BlockLaws.{then_ok}
use Rattle.firm_tables.proofs.nodes.Nodes.append.Goals as goal

pub push-requires-clause-user : goal.push-requires-clause-user
push-requires-clause-user c = omega (arith, node_there c.self.inside.operands.uses c.self.inside.currents.uses c.self.inside.rows.items c.args.self.now c.args.number c.self.view_is c.requires.there, c.self.invariant.0.operands_cover.users)

pub push-requires-clause-used : goal.push-requires-clause-used
push-requires-clause-used c = omega (arith, node_there c.self.inside.operands.uses c.self.inside.currents.uses c.self.inside.rows.items c.args.self.now c.args.operand c.self.view_is c.requires.operand, c.self.invariant.0.operands_cover.used_ones)

pub invariant_of-self : goal.invariant_of-self
invariant_of-self c = (
  held_ok c.push.result _ c.args.number (list_of c.self.inside.operands.uses c.args.number ++ c.args.operand ∷ []) c.self.inside.operands c.self.inside.currents c.push.new.self
      c.self.invariant.0 (node_there c.self.inside.operands.uses c.self.inside.currents.uses c.self.inside.rows.items c.args.self.now c.args.number c.self.view_is c.requires.there) c.push.ensures.ok c.push.ensures.err c.push.ensures.loads,
  c.self.invariant.1,
)

pub returns-clause-ok : goal.returns-clause-ok
returns-clause-ok c =
    then_ok c.push.result c.push.ensures.ok
    (λ e. operands_change c.self.inside.operands.uses c.self.inside.currents.uses c.push.new.self.uses c.self.inside.rows.items c.args.self.now c.args.number (λ l. l ++ c.args.operand ∷ [])
    c.self.view_is c.requires.there
    (omega (arith, node_there c.self.inside.operands.uses c.self.inside.currents.uses c.self.inside.rows.items c.args.self.now c.args.number c.self.view_is c.requires.there, c.self.invariant.0.operands_cover.users)) c.self.invariant.0.empty e)
