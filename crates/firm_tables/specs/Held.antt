-- How nodes and blocks stand in the tables.
use Rattle.std.specs.Prelude.{◌≡◌, ◌==◌, ℕ, zero, suc, Bool, true, false, ◌&&◌, if◌then◌else◌, ◌<◌, ◌≤◌, List, [], ◌∷◌, ◌++◌, length, option_map, slice_index_or}
use Rattle.std.specs.List.{remove}
use Rattle.cp_obstack.specs.Lists.{list_of}
use Rattle.firm_uses.specs.Counts.{times, Used}
use Rattle.firm_rules.specs.declared.node.NodeOp.{NodeOp}
use Rattle.firm_rules.specs.declared.node.NodeOp.TheVariants.{Unknown}
use Rattle.firm_uses.specs.Tables.{with_list}
use Rattle.firm_rules.specs.Replacing.{renamed_end}
use Rattle.firm_rules.specs.Rules.{is_phi}
use Rattle.firm_rules.specs.Graphs.{FirmNode, FirmBlock}
use Rattle.firm_tables.specs.declared.nodes.Stored.{Stored}
use Rattle.firm_tables.specs.declared.blocks.StoredBlock.{StoredBlock}

-- ---- nodes

-- the node of a number, with its operands and what is now in its place
abbrev pub node_seen : List (List ℕ) → List (List ℕ) → ℕ → Stored → FirmNode
node_seen operands currents n row = record {
  op = row.op;
  block = row.block;
  operands = list_of operands n;
  there = row.there;
  current = slice_index_or (list_of currents n) 0 0;
}

-- the nodes from a number on
abbrev pub nodes_from : ℕ → List (List ℕ) → List (List ℕ) → List Stored → List FirmNode
nodes_from n operands currents [] = []
nodes_from n operands currents (row ∷ rows) = node_seen operands currents n row ∷ nodes_from (suc n) operands currents rows

-- so many numbers can use, and be used
pub record Covers (count : ℕ) (used : Used) : Type 0 where
  pub users : count ≤ length used.uses
  pub used_ones : count ≤ length used.loads

-- each node has its row of operands, and one node in its place; what is not yet a node has no operand
pub record AreHeld (count : ℕ) (operands currents : Used) : Type 0 where
  pub operands_cover : Covers count operands
  pub currents_cover : Covers count currents
  pub empty : (n : ℕ) → count ≤ n → list_of operands.uses n ≡ []
  pub own : (n : ℕ) → n < count → length (list_of currents.uses n) ≡ 1

-- the row of a number at which there was never a node
abbrev pub no_row : Stored
no_row = record { op = Unknown; block = 0; there = false }

abbrev pub is_in : Stored → ℕ → Bool
is_in row b = row.there && (row.block == b)

pub record IsRow (row : Stored) (op : NodeOp) (b : ℕ) : Type 0 where
  pub there : row.there ≡ true
  pub op_is : row.op ≡ op
  pub block_is : row.block ≡ b

-- a Phi with these operands has one less, that at the place
abbrev pub lost_operand : NodeOp → ℕ → List ℕ → List ℕ
lost_operand op place list = if is_phi op then remove list place else list

-- so it has where it stands among some nodes, so often
abbrev pub lost_times : ℕ → NodeOp → ℕ → List ℕ → List ℕ
lost_times zero op place list = list
lost_times (suc count) op place list = lost_operand op place list

-- each block lists the nodes that are there in it, each once
abbrev pub AreMembers : List Stored → List (List ℕ) → Type 0
AreMembers rows members = (b n : ℕ) → times n (list_of members b) ≡ (if is_in (slice_index_or rows n no_row) b then 1 else 0)

-- ---- blocks

abbrev pub block_seen : List (List ℕ) → ℕ → StoredBlock → FirmBlock
block_seen preds b row = record { preds = list_of preds b; end = row.end; sealed = row.sealed }

abbrev pub blocks_from : ℕ → List (List ℕ) → List StoredBlock → List FirmBlock
blocks_from b preds [] = []
blocks_from b preds (row ∷ rows) = block_seen preds b row ∷ blocks_from (suc b) preds rows

-- each block has its list of predecessors, and what is not yet a block has none
pub record AreListed (count : ℕ) (preds : List (List ℕ)) : Type 0 where
  pub cover : count ≤ length preds
  pub empty : (b : ℕ) → count ≤ b → list_of preds b ≡ []

-- a list with one number more
abbrev pub pushed : List (List ℕ) → ℕ → ℕ → List (List ℕ)
pushed lists b number = with_list lists b (list_of lists b ++ number ∷ [])

abbrev pub renamed_row : ℕ → ℕ → StoredBlock → StoredBlock
renamed_row old to row = record row { end = option_map (renamed_end old to) row.end }
