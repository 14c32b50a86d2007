use Rattle.std.proofs.Common.{◌∙◌, ap, length, arith}
use Rattle.firm_uses.specs.Counts.{renamed_rows}
use Rattle.firm_uses.proofs.EditLaws.{on_ok}
use Rattle.firm_tables.proofs.NodeLaws.{node_there, held_renamed, renamed_seen}
use Rattle.firm_tables.proofs.nodes.Nodes.rename.Goals as goal

pub reserve-requires-clause-old : goal.reserve-requires-clause-old
reserve-requires-clause-old c = omega (arith, node_there c.self.inside.operands.uses c.self.inside.currents.uses c.self.inside.rows.items c.args.self.now c.args.old c.self.view_is c.requires.old, c.self.invariant.0.currents_cover.used_ones)

pub reserve-requires-clause-to : goal.reserve-requires-clause-to
reserve-requires-clause-to c = omega (arith, node_there c.self.inside.operands.uses c.self.inside.currents.uses c.self.inside.rows.items c.args.self.now c.args.to c.self.view_is c.requires.to, c.self.invariant.0.currents_cover.used_ones)

pub replace-requires-clause-old : goal.replace-requires-clause-old
replace-requires-clause-old c = omega (arith, node_there c.self.inside.operands.uses c.self.inside.currents.uses c.self.inside.rows.items c.args.self.now c.args.old c.self.view_is c.requires.old, c.self.invariant.0.operands_cover.used_ones)

pub replace-requires-clause-to : goal.replace-requires-clause-to
replace-requires-clause-to c = omega (arith, node_there c.self.inside.operands.uses c.self.inside.currents.uses c.self.inside.rows.items c.args.self.now c.args.to c.self.view_is c.requires.to, c.self.invariant.0.operands_cover.used_ones)

pub replace-requires-2-clause-old : goal.replace-requires-2-clause-old
replace-requires-2-clause-old c =
    omega (arith, ap length c.reserve.ensures.loads, node_there c.self.inside.operands.uses c.self.inside.currents.uses c.self.inside.rows.items c.args.self.now c.args.old c.self.view_is c.requires.old, c.self.invariant.0.currents_cover.used_ones)

pub replace-requires-2-clause-to : goal.replace-requires-2-clause-to
replace-requires-2-clause-to c =
    omega (arith, ap length c.reserve.ensures.loads, node_there c.self.inside.operands.uses c.self.inside.currents.uses c.self.inside.rows.items c.args.self.now c.args.to c.self.view_is c.requires.to, c.self.invariant.0.currents_cover.used_ones)

pub invariant_of-self-2 : goal.invariant_of-self-2
invariant_of-self-2 c = (
  held_renamed _ c.args.old c.args.to c.self.inside.operands c.self.inside.currents c.replace.new.self c.replace-2.new.self c.self.invariant.0 c.in_ok-replace.ensures.ok
      c.replace.ensures.loads
      (on_ok c.replace-2.result (c.replace-2.ensures.within c.in_ok-reserve.ensures.room) c.replace-2.ensures.ok ∙ ap (renamed_rows c.args.old c.args.to) c.reserve.ensures.uses)
      (c.replace-2.ensures.loads ∙ ap length c.reserve.ensures.loads),
  c.self.invariant.1,
)

pub returns-clause-ok : goal.returns-clause-ok
returns-clause-ok c =
    renamed_seen c.args.old c.args.to c.self.inside.operands.uses c.self.inside.currents.uses c.replace.new.self.uses c.replace-2.new.self.uses c.self.inside.rows.items c.args.self.now
    c.self.view_is c.self.invariant.0.own c.in_ok-replace.ensures.ok
    (on_ok c.replace-2.result (c.replace-2.ensures.within c.in_ok-reserve.ensures.room) c.replace-2.ensures.ok ∙ ap (renamed_rows c.args.old c.args.to) c.reserve.ensures.uses)
