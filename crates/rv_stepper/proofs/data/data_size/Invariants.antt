use Rattle.std.proofs.Common.{◌≡◌, ◌≤◌, ◌*◌, ◌^◌, take}
use Rattle.rv_code.specs.Sizes.{data_size}
use Rattle.rv_stepper.proofs.data.data_size.Given as goal

abbrev pub invariant-loop-item : goal.invariant-loop-item
invariant-loop-item l = record {
  so_far : l.size ≡ data_size (take l.item-index l.items);
  bound : l.size ≤ l.item-index * 2 ^ 32;
}
