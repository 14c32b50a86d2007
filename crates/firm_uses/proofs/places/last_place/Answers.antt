use Rattle.firm_uses.proofs.TieLaws.{look_back}
use Rattle.firm_uses.proofs.places.last_place.Goals as goal

pub loop-place-preserved : goal.loop-place-preserved
loop-place-preserved c =
    look_back c.args.list.now c.args.value c.loop-place.place c.loop-place.invariant.0 c.loop-place.invariant.1 c.loop-place-test.true
