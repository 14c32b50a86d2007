use Rattle.std.proofs.Common.{◌<◌, arith, subst}
use Rattle.c_names.specs.Chains.{end_in}
use Rattle.c_names.proofs.PutLaws.{all_more, nothing}
use Rattle.c_names.proofs.chain.place_of.Goals as goal

pub loop-place-preserved : goal.loop-place-preserved
loop-place-preserved c =
    let some = c.loop-place-test.true in
    let low = c.loop-place.invariant.low in
    record {
      low = omega (arith, low);
      inner = all_more (λ inner. end_in inner < c.args.end) c.args.chain.now c.loop-place.place nothing some low (subst (λ e. e < c.args.end) c.end_of.ensures c.if-end_of-end.true) c.loop-place.invariant.inner;
    }
