use Rattle.std.proofs.Common.{get_or, sym, subst, arith}
use Rattle.firm_nodes.specs.Kept.{block_numbers}
use Rattle.firm_nodes.proofs.OrderLaws.{block_at}
use Rattle.firm_verify.specs.Tables.{NoBadLoop}
use Rattle.firm_verify.proofs.GraphLaws.{block_listed, each_more, at_blocks}
use Rattle.firm_verify.proofs.LoopLaws.{broken_loop, none_bad}
use Rattle.firm_verify.proofs.loops.check_loops.Goals as goal

pub bad_source-requires-clause-head : goal.bad_source-requires-clause-head
bad_source-requires-clause-head c = block_listed c.args.graph.now c.blocks-head-items.result.now c.loop-head.head-index (record { number = 0 }) c.blocks-head-items.ensures c.loop-head-test.true

pub returns-in-Some-clause-some : goal.returns-in-Some-clause-some
returns-in-Some-clause-some c =
    broken_loop c.args.graph.now (get_or c.blocks-head-items.result.now c.loop-head.head-index (record { number = 0 })).number c.in-Some.block.number c.requires.whole (c.in-Some.ensures {u = tt}).some

pub loop-head-preserved : goal.loop-head-preserved
loop-head-preserved c =
    let g = c.args.graph.now in
    let ids = c.blocks-head-items.result.now in
    let at = c.loop-head.head-index in
    each_more (λ i. NoBadLoop g (get_or (block_numbers ids) i 0)) at c.loop-head.invariant
    (subst (NoBadLoop g) (sym (block_at ids at (record { number = 0 }) c.loop-head-test.true)) (c.in_default.ensures {u = tt}).none)

pub returns-clause-none : goal.returns-clause-none
returns-clause-none c =
    none_bad c.args.graph.now
    (at_blocks c.args.graph.now (NoBadLoop c.args.graph.now) c.blocks-head-items.result.now c.blocks-head-items.ensures (λ i h. c.loop-head.invariant i (omega (arith, h, c.loop-head-test.false))))
