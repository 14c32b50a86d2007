-- What stands where in a graph, and the graph as SSA construction sees it.
use Rattle.std.specs.Prelude.{ℕ, ◌<◌, Bool, ◌==◌, nat_lt, if◌then◌else◌, List, [], ◌∷◌, length, map, Option, Some, None, option_map, unwrap_or, slice_get}
use Rattle.std.specs.List.{position_or_len}
use Rattle.ssa_core.specs.Shapes.{Shape, Mode as Sort, word, memory, neither, ValueKind, absent, gone, unknown, phi, other}
use Rattle.firm_rules.specs.declared.node.NodeId.{NodeId}
use Rattle.firm_rules.specs.declared.node.Mode.{Mode}
use Rattle.firm_rules.specs.declared.node.Mode.TheVariants.{Word, Memory}
use Rattle.firm_rules.specs.declared.node.NodeOp.{NodeOp}
use Rattle.firm_rules.specs.declared.node.NodeOp.TheVariants.{Unknown, Phi}
use Rattle.firm_rules.specs.declared.node.FirmEnd.{FirmEnd}
use Rattle.firm_rules.specs.declared.node.FirmEnd.TheVariants.{Jump, Branch}
use Rattle.firm_rules.specs.Graphs.{FirmNode, Firm, mode_of}

-- ---- nodes

abbrev pub if_there : Option FirmNode → Option FirmNode
if_there (Some node) = if node.there then Some node else None
if_there None = None

-- the node of this number, where it is there
abbrev pub node_at : Firm → ℕ → Option FirmNode
node_at g n = if_there (slice_get g.nodes n)

abbrev pub mode_at : Firm → ℕ → Option Mode
mode_at g n = option_map (λ node. mode_of node.op) (node_at g n)

-- ---- blocks

abbrev pub first_of : List ℕ → ℕ
first_of [] = 0
first_of (b ∷ bs) = b

-- how many blocks stand before this one in the order
abbrev pub rank : Firm → ℕ → ℕ
rank g b = position_or_len (λ c. c == b) g.order

-- the block stands in the order
abbrev pub IsBlock : Firm → ℕ → Type 0
IsBlock g b = rank g b < length g.order

-- the second block stands later in the order
abbrev pub is_later : Firm → ℕ → ℕ → Bool
is_later g b c = nat_lt (rank g b) (rank g c)

abbrev pub preds_of : Firm → ℕ → List ℕ
preds_of g b = unwrap_or (option_map (λ block. block.preds) (slice_get g.blocks b)) []

abbrev pub end_of : Firm → ℕ → Option FirmEnd
end_of g b = unwrap_or (option_map (λ block. block.end) (slice_get g.blocks b)) None

-- where an end leads
abbrev pub targets : Option FirmEnd → List ℕ
targets (Some (Jump b)) = b.number ∷ []
targets (Some (Branch n first second)) = first.number ∷ second.number ∷ []
targets end = []

-- ---- as a target of SSA construction

abbrev pub node_id : ℕ → NodeId
node_id n = record { number = n }

abbrev pub kind_by : NodeOp → List ℕ → ValueKind NodeId
kind_by (Phi mode) operands = phi (map node_id operands)
kind_by Unknown operands = unknown
kind_by op operands = other

abbrev pub kind_of : Option FirmNode → ValueKind NodeId
kind_of (Some node) = if node.there then kind_by node.op node.operands else gone
kind_of None = absent

abbrev pub sort_of : Option Mode → Sort
sort_of (Some Word) = word
sort_of (Some Memory) = memory
sort_of mode = neither

-- the blocks and values of a graph, where a value is a node
abbrev pub shape : Firm → Shape NodeId
shape g = record {
  first = first_of g.order;
  blocks = length g.blocks;
  preds = preds_of g;
  kind = λ v. kind_of (slice_get g.nodes v.number);
  block = λ v. unwrap_or (option_map (λ node. node.block) (slice_get g.nodes v.number)) 0;
  mode = λ v. sort_of (option_map (λ node. mode_of node.op) (slice_get g.nodes v.number));
  current = λ v. node_id (unwrap_or (option_map (λ node. node.current) (slice_get g.nodes v.number)) v.number);
}
