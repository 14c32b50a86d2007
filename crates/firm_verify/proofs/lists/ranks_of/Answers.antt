use Rattle.firm_verify.proofs.TableLaws.{ranks_start, ranks_turn, ranks_done}
use Rattle.firm_verify.proofs.lists.ranks_of.Goals as goal

pub loop-place-init : goal.loop-place-init
loop-place-init c = ranks_start c.blocks-order.result.now c.new-ranks.result.items c.new-ranks.ensures.items

pub loop-place-preserved : goal.loop-place-preserved
loop-place-preserved c =
    let set = c.in_ok-set_at.ensures {u = tt} in
    ranks_turn c.blocks-order.result.now c.loop-place.ranks.items c.set_at.new.table.items c.loop-place.place (record { number = 0 }) c.loop-place-test.true c.loop-place.invariant set.this set.others

pub returns : goal.returns
returns c = ranks_done c.args.graph.now c.blocks-order.result.now c.loop-place.ranks.items c.loop-place.place c.blocks-order.ensures c.loop-place-test.false c.loop-place.invariant
