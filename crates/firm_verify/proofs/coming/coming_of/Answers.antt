use Rattle.std.proofs.Common.{true≢false, length, ap, arith}
use Rattle.firm_nodes.proofs.OrderLaws.{blocks_long}
use Rattle.firm_verify.proofs.ComingLaws.{seen_first, are_coming}
use Rattle.firm_verify.proofs.coming.coming_of.Goals as goal

pub returns : goal.returns
returns c =
    are_coming c.args.graph.now c.args.chains.now c.loop-is_open.coming.items c.requires.whole c.requires.some_block c.requires.chains c.loop-is_open.invariant.0 (c.loop-is_open.invariant.1 c.loop-is_open-test.false)

pub loop-is_open-init : goal.loop-is_open-init
loop-is_open-init c =
    let set_now = c.in_ok-set_at.ensures {u = tt} in (
      seen_first c.args.graph.now c.args.chains.now c.blocks-2.result.now (record { number = 0 }) c.new-coming.result.items c.set_at.new.table.items c.requires.chains c.blocks-2.ensures
          (omega (arith, blocks_long c.blocks-2.result.now, ap length c.blocks-2.ensures, c.requires.some_block)) c.new-coming.ensures.items set_now.this set_now.others,
      λ e. absurd (true≢false e),
    )
