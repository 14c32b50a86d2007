use Rattle.std.proofs.Common.{get_or, refl}
use Rattle.firm_text.specs.Text.{place_after_blank}
use Rattle.firm_text.proofs.PrintLaws.{one_more}
use Rattle.firm_text.proofs.blocks.put_preds.Goals as goal

pub loop-pred-preserved : goal.loop-pred-preserved
loop-pred-preserved c =
    one_more (place_after_blank c.args.graph.now) c.args.out.now c.loop-pred.out c.put_place.new.out c.args.preds.now c.loop-pred.pred-index
    (get_or c.args.preds.now c.loop-pred.pred-index 0) 0 c.loop-pred-test.true refl c.loop-pred.invariant c.in_ok-put_place.ensures
