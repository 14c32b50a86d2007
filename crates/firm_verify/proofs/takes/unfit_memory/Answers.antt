use Rattle.std.proofs.Common.{get_or, sym, subst, arith}
use Rattle.firm_tables.proofs.NodeLaws.{agrees, refuses}
use Rattle.firm_rules.specs.Rules.{MemoryFits}
use Rattle.firm_nodes.specs.Kept.{block_numbers}
use Rattle.firm_nodes.proofs.OrderLaws.{block_at}
use Rattle.firm_verify.specs.Broken.{memory}
use Rattle.firm_verify.proofs.GraphLaws.{block_listed, each_more, at_blocks}
use Rattle.firm_verify.proofs.takes.unfit_memory.Goals as goal

pub memory_fits-requires-clause-block : goal.memory_fits-requires-clause-block
memory_fits-requires-clause-block c = block_listed c.args.graph.now c.blocks-block-items.result.now c.loop-block.block-index (record { number = 0 }) c.blocks-block-items.ensures c.loop-block-test.true

pub loop-block-preserved : goal.loop-block-preserved
loop-block-preserved c =
    let g = c.args.graph.now in
    let ids = c.blocks-block-items.result.now in
    let at = c.loop-block.block-index in
    each_more (λ i. MemoryFits g (get_or (block_numbers ids) i 0)) at c.loop-block.invariant
    (subst (MemoryFits g) (sym (block_at ids at (record { number = 0 }) c.loop-block-test.true)) (agrees c.memory_fits.result c.if-not-memory_fits.false c.memory_fits.ensures))

pub returns-then-not-memory_fits-clause-some : goal.returns-then-not-memory_fits-clause-some
returns-then-not-memory_fits-clause-some c =
    memory (block_listed c.args.graph.now c.blocks-block-items.result.now c.loop-block.block-index (record { number = 0 }) c.blocks-block-items.ensures c.loop-block-test.true)
    (refuses c.memory_fits.result c.if-not-memory_fits.true c.memory_fits.ensures)

pub returns-clause-none : goal.returns-clause-none
returns-clause-none c =
    at_blocks c.args.graph.now (MemoryFits c.args.graph.now) c.blocks-block-items.result.now c.blocks-block-items.ensures (λ i h. c.loop-block.invariant i (omega (arith, h, c.loop-block-test.false)))
