-- Changes of the list of a graph's blocks, each at its number.
use Rattle.std.specs.Prelude.{ℕ, true, false, List, [], ◌∷◌, ◌++◌, option_map, Option, None, slice_index_or, slice_set}
use Rattle.firm_rules.specs.declared.node.FirmEnd.{FirmEnd}
use Rattle.firm_rules.specs.Graphs.{FirmBlock}
use Rattle.firm_rules.specs.Replacing.{renamed_end}

-- a block without predecessors and end, which may still gain predecessors; so too what stands at a number at which there was never a
-- block
abbrev pub new_block : FirmBlock
new_block = record { preds = []; end = None; sealed = false }

-- the block of this number
abbrev pub block_of : List FirmBlock → ℕ → FirmBlock
block_of blocks b = slice_index_or blocks b new_block

abbrev pub with_preds : List FirmBlock → ℕ → List ℕ → List FirmBlock
with_preds blocks b preds = slice_set blocks b (record (block_of blocks b) { preds = preds })

abbrev pub with_end : List FirmBlock → ℕ → Option FirmEnd → List FirmBlock
with_end blocks b end = slice_set blocks b (record (block_of blocks b) { end = end })

abbrev pub sealed_at : List FirmBlock → ℕ → List FirmBlock
sealed_at blocks b = slice_set blocks b (record (block_of blocks b) { sealed = true })

-- the targets in turn gain a predecessor, last
abbrev pub linked : ℕ → List FirmBlock → List ℕ → List FirmBlock
linked from blocks [] = blocks
linked from blocks (to ∷ rest) = linked from (with_preds blocks to ((block_of blocks to).preds ++ from ∷ [])) rest

-- `to` stands in the end where `old` stood
abbrev pub renamed_block : ℕ → ℕ → FirmBlock → FirmBlock
renamed_block old to block = record block { end = option_map (renamed_end old to) block.end }
