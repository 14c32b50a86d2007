use Rattle.std.proofs.Common.{refl, arith}
use Rattle.c_initializers.proofs.CellLaws.{next_first, all_first}
use Rattle.c_initializers.proofs.texts.text_cells.Goals as goal

pub loop-k-init : goal.loop-k-init
loop-k-init c = (c.new-cells.ensures, refl)

pub loop-k-preserved : goal.loop-k-preserved
loop-k-preserved c = next_first c.args.bytes.now c.loop-k.k _ c.loop-k.cells c.push.new.self c.loop-k-test.true c.loop-k.invariant ((c.in_ok-push.ensures {u = tt}).ok)

pub returns : goal.returns
returns c = all_first c.args.bytes.now c.loop-k.k c.loop-k.cells (omega (arith, c.loop-k-test.false)) c.loop-k.invariant
