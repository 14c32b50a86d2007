-- Changes of the list of a graph's nodes, each at its number.
use Rattle.std.specs.Prelude.{◌≡◌, ℕ, ◌==◌, Bool, true, false, ◌&&◌, List, [], map, if◌then◌else◌, slice_index_or, slice_set}
use Rattle.std.specs.List.{remove}
use Rattle.firm_rules.specs.declared.node.NodeId.{NodeId}
use Rattle.firm_rules.specs.declared.node.NodeOp.{NodeOp}
use Rattle.firm_rules.specs.declared.node.NodeOp.TheVariants.{Unknown}
use Rattle.firm_rules.specs.Graphs.{FirmNode}
use Rattle.firm_rules.specs.Rules.{is_phi}
use Rattle.firm_uses.specs.Counts.{renamed}

-- what stands at a number at which there was never a node
abbrev pub no_node : FirmNode
no_node = record { op = Unknown; block = 0; operands = []; there = false; current = 0 }

-- the node of this number, whether or not it is still there
abbrev pub node_of : List FirmNode → ℕ → FirmNode
node_of nodes n = slice_index_or nodes n no_node

abbrev pub numbers : List NodeId → List ℕ
numbers ids = map (λ id. id.number) ids

-- the node is there, in this block
abbrev pub stands_in : FirmNode → ℕ → Bool
stands_in node b = node.there && (node.block == b)

-- a new node, which is its own
abbrev pub made : ℕ → NodeOp → ℕ → List ℕ → FirmNode
made n op block operands = record { op = op; block = block; operands = operands; there = true; current = n }

-- a node of the block with this operation and these operands
pub record IsLike (nodes : List FirmNode) (op : NodeOp) (b : ℕ) (operands : List ℕ) (n : ℕ) : Type 0 where
  pub there : (node_of nodes n).there ≡ true
  pub op_is : (node_of nodes n).op ≡ op
  pub block_is : (node_of nodes n).block ≡ b
  pub operands_are : (node_of nodes n).operands ≡ operands

-- the node has these operands
abbrev pub with_operands : List FirmNode → ℕ → List ℕ → List FirmNode
with_operands nodes n operands = slice_set nodes n (record (node_of nodes n) { operands = operands })

-- the node is no longer there, and has no operand
abbrev pub gone : FirmNode → FirmNode
gone node = record node { operands = []; there = false }

abbrev pub without : List FirmNode → ℕ → List FirmNode
without nodes n = slice_set nodes n (gone (node_of nodes n))

-- a Phi of the block has one operand less, that at the place
abbrev pub without_operand : ℕ → ℕ → FirmNode → FirmNode
without_operand b place node = if stands_in node b && is_phi node.op then record node { operands = remove node.operands place } else node

-- `to` stands among the operands, and as what is now in the node's place, where `old` stood
abbrev pub renamed_node : ℕ → ℕ → FirmNode → FirmNode
renamed_node old to node = record node { operands = map (renamed old to) node.operands; current = renamed old to node.current }

-- `to` was put in the place of `old`, which is gone
abbrev pub replaced : List FirmNode → ℕ → ℕ → List FirmNode
replaced nodes old to = without (map (renamed_node old to) nodes) old
