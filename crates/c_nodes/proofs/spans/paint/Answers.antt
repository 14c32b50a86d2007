use Rattle.std.proofs.Common.{◌<◌, ◌∙◌, ◌⊎◌, inl, inr, ap, arith, get_or, length, refl, sym}
use Rattle.std.specs.Prelude.{slice_set}
use Rattle.c_nodes.proofs.SpanLaws.{painted_none, one_more, painted_end, painted_at}
use Rattle.c_nodes.proofs.spans.paint.Goals as goal

pub loop-place-init : goal.loop-place-init
loop-place-init c = record { painted = sym (painted_none 0 c.args.from c.args.from c.args.number c.args.found.now (omega arith)); low = omega arith; high = inl refl }

pub bounds-found-place : goal.bounds-found-place
bounds-found-place c = omega (arith, within c.requires, c.loop-place.auto.found)
  where
    within : (c.args.to < c.args.from) ⊎ (c.args.to < length c.args.found.now) → c.loop-place.place < length c.args.found.now
    within (inl none) = let low = c.loop-place.invariant.low in let some = c.loop-place-test.true in absurd (omega (arith, none, low, some))
    within (inr high) = let some = c.loop-place-test.true in omega (arith, high, some)

pub loop-place-preserved : goal.loop-place-preserved
loop-place-preserved c =
    let low = c.loop-place.invariant.low in
    let some = c.loop-place-test.true in
    let room = bounds-found-place c in
    record {
      painted = ap (λ xs. slice_set xs c.loop-place.place c.args.number) c.loop-place.invariant.painted
          ∙ one_more c.args.from c.args.number c.loop-place.place c.args.found.now (omega (arith, room, c.loop-place.auto.found)) low;
      low = omega (arith, low);
      high = inr (omega (arith, some));
    }

pub returns-clause-is : goal.returns-clause-is
returns-clause-is c = c.loop-place.invariant.painted ∙ painted_end c.args.from c.args.to c.loop-place.place c.args.number c.args.found.now c.loop-place-test.false c.loop-place.invariant.high

pub returns-clause-places : goal.returns-clause-places
returns-clause-places c = λ i. ap (λ xs. get_or xs i 0) (returns-clause-is c) ∙ painted_at c.args.from c.args.to c.args.number c.args.found.now i
