use Rattle.std.proofs.Common.{◌≡◌, ◌++◌, take}
use Rattle.std.specs.List.{flat_map}
use Rattle.firm_text.specs.Text.{after_blank}
use Rattle.firm_text.proofs.blocks.put_numbers.Given as goal

-- what came before is written
abbrev pub invariant-loop-number : goal.invariant-loop-number
invariant-loop-number l = l.out ≡ l.fn.out ++ flat_map after_blank (take l.number-index l.list)
