use Rattle.std.proofs.Common.{◌∙◌, arith}
use Rattle.rv_code.proofs.Sizes.{data_size-more}
use Rattle.rv_stepper.proofs.data.data_size.Goals as goal

pub loop-item-preserved : goal.loop-item-preserved
loop-item-preserved c = record {
  so_far = data_size-more _ _ _ _ _ c.loop-item-test.true (c.from-size.ensures ∙ c.item_size.ensures) c.loop-item.invariant.so_far;
  bound = omega arith;
}
