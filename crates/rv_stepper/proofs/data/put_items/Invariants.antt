use Rattle.std.proofs.Common.{◌≡◌, ◌++◌, take}
use Rattle.std.specs.List.{flat_map}
use Rattle.rv_code.specs.Loading.{item_bytes}
use Rattle.rv_stepper.proofs.data.put_items.Given as goal

abbrev pub invariant-loop-item : goal.invariant-loop-item
invariant-loop-item l = l.bytes.items ≡ l.initial.bytes.items ++ flat_map (item_bytes l.cdata) (take l.item-index l.items)
