use Rattle.std.proofs.Common.{◌≤◌, ◌+◌, ◌∙◌, sym, arith}
use Rattle.firm_nodes.specs.Kept.{block_numbers}
use Rattle.firm_nodes.proofs.OrderLaws.{place, search_on, search_ends, read_block, taken_out}
use Rattle.firm_nodes.proofs.graph.take_out.Goals as goal

pub loop-place-preserved : goal.loop-place-preserved
loop-place-preserved c =
    let ids = c.args.order.now.items in
    let at = c.loop-place.place in
    search_on c.args.block at (block_numbers ids) c.requires c.loop-place.invariant
    (λ e. c.loop-place-test.true (sym (read_block ids c.args.block at c.index.result.now c.requires c.loop-place.invariant c.index.ensures) ∙ e))

pub loop-place-smaller : goal.loop-place-smaller
loop-place-smaller c =
    let ids = c.args.order.now.items in
    let at = c.loop-place.place in
    let more : at + 1 ≤ place c.args.block (block_numbers ids) = search_on c.args.block at (block_numbers ids) c.requires c.loop-place.invariant
    (λ e. c.loop-place-test.true (sym (read_block ids c.args.block at c.index.result.now c.requires c.loop-place.invariant c.index.ensures) ∙ e)) in
    omega (arith, more)

pub returns : goal.returns
returns c =
    let ids = c.args.order.now.items in
    let at = c.loop-place.place in
    taken_out ids c.remove.new.self.items c.args.block at
    (search_ends c.args.block at (block_numbers ids) c.loop-place.invariant
    (read_block ids c.args.block at c.index.result.now c.requires c.loop-place.invariant c.index.ensures ∙ c.loop-place-test.false)) c.remove.ensures.items
