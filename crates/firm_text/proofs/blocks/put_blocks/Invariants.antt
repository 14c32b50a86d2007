use Rattle.std.proofs.Common.{◌≡◌, ◌++◌, take}
use Rattle.std.specs.List.{flat_map}
use Rattle.firm_text.specs.Text.{block_text}
use Rattle.firm_text.proofs.blocks.put_blocks.Given as goal

-- what came before is written
abbrev pub invariant-loop-block : goal.invariant-loop-block
invariant-loop-block l = l.out ≡ l.fn.out ++ flat_map (λ block. block_text l.graph block.number) (take l.block-index l.blocks)
