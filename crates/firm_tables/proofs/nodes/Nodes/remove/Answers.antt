use Rattle.std.proofs.Common.{rules, ◌∙◌, [], false, sym, ap, subst, arith, length, refl}
use Rattle.std.proofs.lemmas.List.{length-set}
use Rattle.firm_rules.specs.Graphs.{FirmNode}
use Rattle.firm_tables.specs.declared.nodes.Stored.{Stored}
use Rattle.firm_tables.specs.Held.{AreHeld}
use Rattle.firm_tables.proofs.NodeLaws.{node_within, node_there, row_is, seen_node, held_set, gone_seen}
use Rattle.firm_tables.proofs.LeafLaws.{leaf_of_row, leaves_gone}
use Rattle.firm_tables.proofs.MemberLaws.{has_member, member_gone}
use Rattle.firm_tables.proofs.nodes.Nodes.remove.Goals as goal

pub index-requires : goal.index-requires
index-requires c = search (rules, node_there c.self.inside.operands.uses c.self.inside.currents.uses c.self.inside.rows.items c.args.self.now c.args.number c.self.view_is (node_within c.args.self.now c.args.number c.requires))

pub index_mut-requires : goal.index_mut-requires
index_mut-requires c = search (rules, node_there c.self.inside.operands.uses c.self.inside.currents.uses c.self.inside.rows.items c.args.self.now c.args.number c.self.view_is (node_within c.args.self.now c.args.number c.requires))

pub clear-requires : goal.clear-requires
clear-requires c =
    omega (arith, node_there c.self.inside.operands.uses c.self.inside.currents.uses c.self.inside.rows.items c.args.self.now c.args.number c.self.view_is (node_within c.args.self.now c.args.number c.requires), c.self.invariant.0.operands_cover.users)

pub strike-requires : goal.strike-requires
strike-requires c = λ code coded.
    let within = node_within c.args.self.now c.args.number c.requires in
    leaf_of_row c.self.inside.rows.items c.self.inside.leaves c.args.number code c.index.result.now c.self.invariant.1.1
    (row_is c.self.inside.rows.items c.args.number c.index.result.now (node_there c.self.inside.operands.uses c.self.inside.currents.uses c.self.inside.rows.items c.args.self.now c.args.number c.self.view_is within) c.index.ensures)
    (ap (λ (node : FirmNode). node.there) (seen_node c.self.inside.operands.uses c.self.inside.currents.uses c.self.inside.rows.items c.args.self.now c.args.number c.index.result.now c.self.view_is within c.index.ensures) ∙ c.requires)
    coded

pub remove-requires : goal.remove-requires
remove-requires c =
    let within = node_within c.args.self.now c.args.number c.requires in
    has_member c.self.inside.rows.items c.self.inside.members c.args.number c.index.result.now c.self.invariant.1.0
    (row_is c.self.inside.rows.items c.args.number c.index.result.now (node_there c.self.inside.operands.uses c.self.inside.currents.uses c.self.inside.rows.items c.args.self.now c.args.number c.self.view_is within) c.index.ensures)
    (ap (λ (node : FirmNode). node.there) (seen_node c.self.inside.operands.uses c.self.inside.currents.uses c.self.inside.rows.items c.args.self.now c.args.number c.index.result.now c.self.view_is within c.index.ensures) ∙ c.requires)

pub invariant_of-self : goal.invariant_of-self
invariant_of-self c =
    let rows = c.self.inside.rows.items in
    let was = c.index.result.now in
    let gone : Stored = record was { there = false } in
    let within = node_within c.args.self.now c.args.number c.requires in
    let there = node_there c.self.inside.operands.uses c.self.inside.currents.uses c.self.inside.rows.items c.args.self.now c.args.number c.self.view_is within in (
      subst (λ n. AreHeld n c.clear.new.self c.self.inside.currents) (sym (length-set rows c.args.number gone))
          (held_set (length rows) c.args.number [] c.self.inside.operands c.self.inside.currents c.clear.new.self c.self.invariant.0 there c.clear.ensures.uses c.clear.ensures.loads),
      (
        member_gone rows c.self.inside.members c.remove.new.self c.args.number gone was c.self.invariant.1.0 (row_is rows c.args.number was there c.index.ensures)
            (ap (λ (node : FirmNode). node.there) (seen_node c.self.inside.operands.uses c.self.inside.currents.uses c.self.inside.rows.items c.args.self.now c.args.number was c.self.view_is within c.index.ensures) ∙ c.requires) refl c.remove.ensures.this c.remove.ensures.others,
        leaves_gone rows c.args.number gone c.self.inside.leaves c.strike.new.self there refl c.self.invariant.1.1 c.strike.ensures,
      ),
    )

pub returns : goal.returns
returns c =
    let within = node_within c.args.self.now c.args.number c.requires in
    gone_seen c.self.inside.operands.uses c.self.inside.currents.uses c.clear.new.self.uses c.self.inside.rows.items c.args.self.now c.args.number c.index.result.now
    (record c.index.result.now { there = false }) c.self.view_is within
    (omega (arith, node_there c.self.inside.operands.uses c.self.inside.currents.uses c.self.inside.rows.items c.args.self.now c.args.number c.self.view_is within, c.self.invariant.0.operands_cover.users)) c.clear.ensures.uses c.index.ensures refl
