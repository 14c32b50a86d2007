use Rattle.std.proofs.Common.{◌<◌, ◌∙◌, sym, length, arith}
use Rattle.firm_uses.proofs.TieLaws.{look_back}
use Rattle.firm_tables.specs.Nodes.{numbers}
use Rattle.firm_tables.proofs.MemberLaws.{number_at, numbers_long}
use Rattle.firm_tables.proofs.members.last_place.Goals as goal

pub loop-place-preserved : goal.loop-place-preserved
loop-place-preserved c =
    let list = c.args.list.now in
    let place = c.loop-place.place in
    let long = numbers_long list in
    let within : place < length (numbers list) = omega (arith, c.loop-place.invariant.0, long) in
    let back = look_back (numbers list) c.args.node place within c.loop-place.invariant.1
    (λ e. c.loop-place-test.true (sym (number_at list place (record { number = 0 }) c.loop-place.invariant.0) ∙ e)) in
    (omega (arith, back.0, long), back.1)
