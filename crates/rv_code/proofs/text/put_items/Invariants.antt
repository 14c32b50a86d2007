use Rattle.std.proofs.Common.{◌≡◌, ◌++◌, take}
use Rattle.std.specs.List.{flat_map}
use Rattle.rv_code.specs.Text.{item_text}
use Rattle.rv_code.proofs.text.put_items.Given as goal

-- what came before is written
abbrev pub invariant-loop-item : goal.invariant-loop-item
invariant-loop-item l = l.out ≡ l.fn.out ++ flat_map item_text (take l.item-index l.items)
