use Rattle.std.proofs.Common.{rules, ◌≡◌, ◌<◌, sym, ap, length, false, arith, get_or}
use Rattle.std.proofs.lemmas.List.{get_or_default}
use Rattle.firm_rules.specs.declared.node.NodeOp.TheVariants.{Start}
use Rattle.firm_tables.specs.declared.nodes.Stored.{Stored}
use Rattle.firm_tables.specs.Nodes.{numbers}
use Rattle.firm_tables.specs.Held.{no_row}
use Rattle.firm_tables.proofs.MemberLaws.{number_at, numbers_long}
use Rattle.firm_tables.proofs.NodeLaws.{covers_set}
use Rattle.firm_tables.proofs.LossLaws.{loss_turn, loss_is}
use Rattle.firm_tables.proofs.nodes.lose_at.Goals as goal

pub bounds-rows-node : goal.bounds-rows-node
bounds-rows-node c =
    omega (arith, c.requires.there c.loop-node.node-index c.loop-node-test.true, number_at c.args.nodes.now c.loop-node.node-index (record { number = 0 }) c.loop-node-test.true)

pub offset_bounds-rows-node : goal.offset_bounds-rows-node
offset_bounds-rows-node c =
    let within : (get_or c.args.nodes.now c.loop-node.node-index (record { number = 0 })).number < length c.args.rows.now =
    omega (arith, c.requires.there c.loop-node.node-index c.loop-node-test.true, number_at c.args.nodes.now c.loop-node.node-index (record { number = 0 }) c.loop-node-test.true) in
    search (rules, within)

pub lose_one-requires : goal.lose_one-requires
lose_one-requires c =
    omega (
      arith,
      c.requires.there c.loop-node.node-index c.loop-node-test.true,
      number_at c.args.nodes.now c.loop-node.node-index (record { number = 0 }) c.loop-node-test.true,
      c.loop-node.invariant.0.users,
    )

pub loop-node-preserved : goal.loop-node-preserved
loop-node-preserved c =
    let nodes = c.args.nodes.now in
    let rows = c.args.rows.now in
    let at = c.loop-node.node-index in
    let now = c.loop-node.operands.uses in
    let read = (get_or nodes at (record { number = 0 })).number in
    let is : get_or (numbers nodes) at 0 ≡ read = number_at nodes at (record { number = 0 }) c.loop-node-test.true in
    let made : get_or (numbers nodes) at 0 < length rows = c.requires.there at c.loop-node-test.true in
    let op_is : (get_or rows read no_row).op ≡ (get_or rows (get_or (numbers nodes) at 0) no_row).op = ap (λ i. (get_or rows i no_row).op) (sym is) in (
      covers_set (length rows) read _ c.loop-node.operands c.lose_one.new.operands c.loop-node.invariant.0 c.lose_one.ensures.uses c.lose_one.ensures.loads,
      λ n. loss_turn c.args.operands.now.uses now c.lose_one.new.operands.uses (numbers nodes) rows at c.args.place n (get_or rows read no_row).op
          (omega (arith, c.loop-node-test.true, numbers_long nodes)) (omega (arith, made, c.loop-node.invariant.0.users)) c.requires.once op_is c.loop-node.invariant.1
          (loss_is now c.lose_one.new.operands.uses (get_or (numbers nodes) at 0) read c.args.place (get_or rows read no_row).op _ c.lose_one.ensures.uses is
          (ap (λ (r : Stored). r.op) (get_or_default rows read no_row (record { op = Start; block = 0; there = false }) (omega (arith, made, is))))),
    )
