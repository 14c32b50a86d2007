use Rattle.std.proofs.Common.{◌≡◌, ◌++◌, take}
use Rattle.std.specs.List.{flat_map}
use Rattle.firm_text.specs.Text.{place_after_blank}
use Rattle.firm_text.proofs.blocks.put_preds.Given as goal

-- what came before is written
abbrev pub invariant-loop-pred : goal.invariant-loop-pred
invariant-loop-pred l = l.out ≡ l.fn.out ++ flat_map (place_after_blank l.graph) (take l.pred-index l.preds)
