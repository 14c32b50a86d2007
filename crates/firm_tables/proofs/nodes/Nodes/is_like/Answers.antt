use Rattle.std.proofs.Common.{rules, ◌∙◌, arith}
use Rattle.firm_tables.specs.Nodes.{numbers}
use Rattle.firm_tables.proofs.NodeLaws.{node_there, like_seen, seen_like, matches, refuses, agrees}
use Rattle.firm_tables.proofs.nodes.Nodes.is_like.Goals as goal

pub index-row-requires : goal.index-row-requires
index-row-requires c = search (rules, node_there c.self.inside.operands.uses c.self.inside.currents.uses c.self.inside.rows.items c.args.self.now c.args.number c.self.view_is c.requires)

pub list-requires : goal.list-requires
list-requires c = omega (arith, node_there c.self.inside.operands.uses c.self.inside.currents.uses c.self.inside.rows.items c.args.self.now c.args.number c.self.view_is c.requires, c.self.invariant.0.operands_cover.users)

pub returns : goal.returns
returns c =
    matches c.are_numbers.result c.are_numbers.ensures
    (λ same. like_seen c.self.inside.operands.uses c.self.inside.currents.uses c.self.inside.rows.items c.args.self.now c.args.number c.index-row.result.now c.args.op c.args.block (numbers c.args.operands.now) c.list.result.now c.self.view_is c.requires c.index-row.ensures
    (agrees c.is_row.result c.if-not-is_row.false c.is_row.ensures) c.list.ensures same)
    (λ like. c.list.ensures
    ∙ (seen_like c.self.inside.operands.uses c.self.inside.currents.uses c.self.inside.rows.items c.args.self.now c.args.number c.index-row.result.now c.args.op c.args.block (numbers c.args.operands.now) c.self.view_is c.requires c.index-row.ensures like).1)

pub returns-then-not-is_row : goal.returns-then-not-is_row
returns-then-not-is_row c = λ like.
    refuses c.is_row.result c.if-not-is_row.true c.is_row.ensures
    (seen_like c.self.inside.operands.uses c.self.inside.currents.uses c.self.inside.rows.items c.args.self.now c.args.number c.index-row.result.now c.args.op c.args.block (numbers c.args.operands.now) c.self.view_is c.requires c.index-row.ensures like).0
