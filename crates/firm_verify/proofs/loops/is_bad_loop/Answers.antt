use Rattle.std.proofs.Common.{ap, length, arith}
use Rattle.firm_nodes.proofs.OrderLaws.{blocks_long}
use Rattle.firm_verify.proofs.LoopLaws.{bad_by}
use Rattle.firm_verify.proofs.loops.is_bad_loop.Goals as goal

pub returns : goal.returns
returns c =
    bad_by c.args.graph.now c.args.head c.args.last c.rank_of-low.result c.rank_of-high.result c.has_side_entry.result c.rank_of-low.ensures c.rank_of-high.ensures c.requires.edge c.if-high-low.false
    (omega (arith, c.if-high-blocks.false, blocks_long c.blocks-2.result.now, ap length c.blocks-2.ensures)) c.has_side_entry.ensures
