use Rattle.std.proofs.Common.{get_or, sym, subst, arith}
use Rattle.firm_rules.specs.Lookups.{end_of}
use Rattle.firm_rules.specs.Rules.{EndFits}
use Rattle.firm_tables.proofs.NodeLaws.{agrees, refuses}
use Rattle.firm_nodes.specs.Kept.{block_numbers}
use Rattle.firm_nodes.proofs.OrderLaws.{block_at}
use Rattle.firm_verify.specs.Broken.{end}
use Rattle.firm_verify.proofs.GraphLaws.{block_listed, each_more, at_blocks}
use Rattle.firm_verify.proofs.CountsLaws.{end_in}
use Rattle.firm_verify.proofs.counts.unfit_end.Goals as goal

pub end_of-requires : goal.end_of-requires
end_of-requires c = block_listed c.args.graph.now c.blocks-block-items.result.now c.loop-block.block-index (record { number = 0 }) c.blocks-block-items.ensures c.loop-block-test.true

pub loop-block-preserved : goal.loop-block-preserved
loop-block-preserved c =
    let g = c.args.graph.now in
    let ids = c.blocks-block-items.result.now in
    let at = c.loop-block.block-index in
    each_more (λ i. EndFits g (end_of g (get_or (block_numbers ids) i 0))) at c.loop-block.invariant
    (subst (λ b. EndFits g (end_of g b)) (sym (block_at ids at (record { number = 0 }) c.loop-block-test.true))
    (agrees c.end_fits.result c.if-not-end_fits.false
    (end_in g c.args.modes.now (get_or ids at (record { number = 0 })).number c.end_of.result c.end_fits.result c.requires.modes c.end_of.ensures c.end_fits.ensures)))

pub returns-then-not-end_fits-clause-some : goal.returns-then-not-end_fits-clause-some
returns-then-not-end_fits-clause-some c =
    let g = c.args.graph.now in
    let ids = c.blocks-block-items.result.now in
    let at = c.loop-block.block-index in
    end (block_listed g ids at (record { number = 0 }) c.blocks-block-items.ensures c.loop-block-test.true)
    (refuses c.end_fits.result c.if-not-end_fits.true
    (end_in g c.args.modes.now (get_or ids at (record { number = 0 })).number c.end_of.result c.end_fits.result c.requires.modes c.end_of.ensures c.end_fits.ensures))

pub returns-clause-none : goal.returns-clause-none
returns-clause-none c =
    let g = c.args.graph.now in
    at_blocks g (λ b. EndFits g (end_of g b)) c.blocks-block-items.result.now c.blocks-block-items.ensures (λ i h. c.loop-block.invariant i (omega (arith, h, c.loop-block-test.false)))
