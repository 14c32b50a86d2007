use Rattle.std.proofs.Common.{◌<◌, sym, subst, length, arith}
use Rattle.std.specs.List.{remove}
use Rattle.cp_obstack.specs.Lists.{list_of}
use Rattle.firm_tables.proofs.NodeLaws.{node_there, seen_operands, held_set, operands_change}
use Rattle.firm_tables.proofs.nodes.Nodes.lose.Goals as goal

pub remove-requires-clause-user : goal.remove-requires-clause-user
remove-requires-clause-user c = omega (arith, node_there c.self.inside.operands.uses c.self.inside.currents.uses c.self.inside.rows.items c.args.self.now c.args.number c.self.view_is c.requires.there, c.self.invariant.0.operands_cover.users)

pub remove-requires-clause-within : goal.remove-requires-clause-within
remove-requires-clause-within c =
    subst (λ l. c.args.index < length l) (sym (seen_operands c.self.inside.operands.uses c.self.inside.currents.uses c.self.inside.rows.items c.args.self.now c.args.number c.self.view_is c.self.invariant.0.empty)) c.requires.within

pub invariant_of-self : goal.invariant_of-self
invariant_of-self c = (
  held_set _ c.args.number (remove (list_of c.self.inside.operands.uses c.args.number) c.args.index) c.self.inside.operands c.self.inside.currents c.remove.new.self
      c.self.invariant.0 (node_there c.self.inside.operands.uses c.self.inside.currents.uses c.self.inside.rows.items c.args.self.now c.args.number c.self.view_is c.requires.there) c.remove.ensures.uses c.remove.ensures.loads,
  c.self.invariant.1,
)

pub returns : goal.returns
returns c =
    operands_change c.self.inside.operands.uses c.self.inside.currents.uses c.remove.new.self.uses c.self.inside.rows.items c.args.self.now c.args.number (λ l. remove l c.args.index)
    c.self.view_is c.requires.there
    (omega (arith, node_there c.self.inside.operands.uses c.self.inside.currents.uses c.self.inside.rows.items c.args.self.now c.args.number c.self.view_is c.requires.there, c.self.invariant.0.operands_cover.users)) c.self.invariant.0.empty c.remove.ensures.uses
