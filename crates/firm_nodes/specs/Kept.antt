-- The graph as it is kept, and what holds of each that the calls make.
use Rattle.std.specs.Prelude.{◌<◌, ℕ, List, [], ◌∷◌, ◌++◌, length, map, Option, Some, None, slice_index}
use Rattle.firm_rules.specs.declared.node.BlockId.{BlockId}
use Rattle.firm_nodes.specs.declared.edges.Edges.{Edges}
use Rattle.firm_rules.specs.Graphs.{FirmNode, FirmBlock, Firm}
use Rattle.firm_rules.specs.Lookups.{targets}
use Rattle.firm_tables.specs.Blocks.{block_of}

abbrev pub block_numbers : List BlockId → List ℕ
block_numbers ids = map (λ id. id.number) ids

abbrev pub graph_of : List ℕ → ℕ → List BlockId → List FirmBlock → List FirmNode → Firm
graph_of name params order blocks nodes = record { name = name; params = params; order = block_numbers order; blocks = blocks; nodes = nodes }

-- each block of the order, and each target of an end, was made
pub record IsKept (order : List ℕ) (blocks : List FirmBlock) : Type 0 where
  pub in_order : (index : ℕ) → index < length order → slice_index order index < length blocks
  pub are_targets : (b index : ℕ) → index < length (targets (block_of blocks b).end) → slice_index (targets (block_of blocks b).end) index < length blocks

abbrev pub option_list : Option ℕ → List ℕ
option_list None = []
option_list (Some x) = x ∷ []

abbrev pub listed : Edges → List ℕ
listed edges = option_list edges.first ++ option_list edges.second
