use Rattle.std.proofs.Common.{◌-◌, arith, refl, get_or}
use Rattle.firm_text.proofs.PlaceLaws.{place_turn}
use Rattle.firm_text.proofs.numbers.places_of.Goals as goal

pub loop-place-preserved : goal.loop-place-preserved
loop-place-preserved c =
    let ids = c.args.order.now in
    let at = c.loop-place.place - 1 in
    record {
      within = omega (arith, c.loop-place.invariant.within);
      placed =
          place_turn ids c.loop-place.places.items c.stand_at.new.places.items c.loop-place.place at (get_or ids at record { number = 0 }) record { number = 0 }
          (omega (arith, c.loop-place-test.true)) (omega (arith, c.loop-place.invariant.within, c.loop-place-test.true)) refl c.loop-place.invariant.placed
          c.in_ok-stand_at.ensures;
    }
