-- What each call makes of a graph.
use Rattle.std.specs.Prelude.{◌≡◌, ◌==◌, ℕ, suc, Bool, true, false, List, [], ◌∷◌, ◌++◌, length, map, option_map, Option, Some, None, if◌then◌else◌}
use Rattle.std.specs.List.{remove, range_with_len}
use Rattle.firm_uses.specs.Counts.{times}
use Rattle.firm_rules.specs.declared.node.NodeOp.{NodeOp}
use Rattle.firm_rules.specs.declared.node.NodeOp.TheVariants.{Start, Param, Const}
use Rattle.firm_rules.specs.declared.node.FirmEnd.{FirmEnd}
use Rattle.firm_rules.specs.declared.node.FirmEnd.TheVariants.{Branch}
use Rattle.firm_rules.specs.Graphs.{FirmNode, Firm, is_pure}
use Rattle.firm_rules.specs.Lookups.{rank, end_of, preds_of, targets}
use Rattle.firm_rules.specs.Rules.{uses}
use Rattle.firm_tables.specs.Nodes.{node_of, made, IsLike, with_operands, without, without_operand, replaced}
use Rattle.firm_tables.specs.Blocks.{new_block, with_preds, with_end, sealed_at, linked, renamed_block}

-- ---- what a call asks

-- a node of this number is there
abbrev pub IsNode : Firm → ℕ → Type 0
IsNode g n = (node_of g.nodes n).there ≡ true

-- no node and no end uses it
pub record IsUnused (g : Firm) (n : ℕ) : Type 0 where
  pub by_nodes : (user : ℕ) → times n (node_of g.nodes user).operands ≡ 0
  pub by_ends : (b : ℕ) → times n (uses (end_of g b)) ≡ 0

-- ---- nodes and blocks that come

abbrev pub parameter : ℕ → FirmNode
parameter i = made (suc i) (Param i) 0 []

abbrev pub entry : ℕ → List FirmNode
entry params = made 0 Start 0 [] ∷ map parameter (range_with_len 0 params)

-- one block, sealed, with `Start` and then the parameters
abbrev pub first_graph : List ℕ → ℕ → Firm
first_graph name params = record {
  name = name;
  params = params;
  order = 0 ∷ [];
  blocks = record new_block { sealed = true } ∷ [];
  nodes = entry params;
}

-- the new block is the last one of the order
abbrev pub with_block : Firm → Firm
with_block g = record g { order = g.order ++ length g.blocks ∷ []; blocks = g.blocks ++ new_block ∷ [] }

abbrev pub with_node : Firm → NodeOp → ℕ → List ℕ → Firm
with_node g op b operands = record g { nodes = g.nodes ++ made (length g.nodes) op b operands ∷ [] }

-- Where the operation is pure and the block has such a node, one is answered and the graph stays as it is; else a new one comes.
pub data IsAdded (g h : Firm) (op : NodeOp) (b : ℕ) (operands : List ℕ) (n : ℕ) : Type 0 where
  shared : is_pure op ≡ true → IsLike g.nodes op b operands n → h ≡ g → IsAdded g h op b operands n
  came : (is_pure op ≡ true → (m : ℕ) → IsLike g.nodes op b operands m → ⊥) → n ≡ length g.nodes → h ≡ with_node g op b operands
      → IsAdded g h op b operands n

-- the node has one operand more, last
abbrev pub appended : Firm → ℕ → ℕ → Firm
appended g n operand = record g { nodes = with_operands g.nodes n ((node_of g.nodes n).operands ++ operand ∷ []) }

-- ---- nodes and blocks that go

-- each use of `old` is one of `to`, and `old` is gone
abbrev pub with_replaced : Firm → ℕ → ℕ → Firm
with_replaced g old to = record g { blocks = map (renamed_block old to) g.blocks; nodes = replaced g.nodes old to }

abbrev pub without_node : Firm → ℕ → Firm
without_node g n = record g { nodes = without g.nodes n }

abbrev pub without_block : Firm → ℕ → Firm
without_block g b = record g { order = remove g.order (rank g b) }

-- ---- ends

abbrev pub seals : Firm → ℕ → Firm
seals g b = record g { blocks = sealed_at g.blocks b }

abbrev pub ends_with : Firm → ℕ → Option FirmEnd → Firm
ends_with g b end = record g { blocks = with_end g.blocks b end }

-- the block has the end, whose targets gain it as their last predecessor
abbrev pub ended : Firm → ℕ → FirmEnd → Firm
ended g b end = ends_with (record g { blocks = linked b g.blocks (targets (Some end)) }) b (Some end)

-- the first place of a number
abbrev pub first_place : ℕ → List ℕ → Option ℕ
first_place b [] = None
first_place b (pred ∷ preds) = if pred == b then Some 0 else option_map suc (first_place b preds)

abbrev pub later_place : Bool → Option ℕ → Option ℕ
later_place here (Some place) = Some (suc place)
later_place here None = if here then Some 0 else None

-- and the last one
abbrev pub last_place : ℕ → List ℕ → Option ℕ
last_place b [] = None
last_place b (pred ∷ preds) = later_place (pred == b) (last_place b preds)

abbrev pub without_pred : Firm → ℕ → Option ℕ → Firm
without_pred g to None = g
without_pred g to (Some place) = record g {
  blocks = with_preds g.blocks to (remove (preds_of g to) place);
  nodes = map (without_operand to place) g.nodes;
}

-- the lost place: of two equal ones the later, or the earlier
abbrev pub lost_place : Bool → ℕ → List ℕ → Option ℕ
lost_place earlier b preds = if earlier then first_place b preds else last_place b preds

-- each of these in turn loses the predecessor, and its Phis the operand for it
abbrev pub unlinked : Bool → ℕ → Firm → List ℕ → Firm
unlinked earlier b g [] = g
unlinked earlier b g (to ∷ rest) = unlinked earlier b (without_pred g to (lost_place earlier b (preds_of g to))) rest

-- a list without one number, at its first place
abbrev pub without_one : List ℕ → ℕ → List ℕ
without_one [] x = []
without_one (y ∷ ys) x = if y == x then ys else y ∷ without_one ys x

-- the same for a number that there may be
abbrev pub without_some : List ℕ → Option ℕ → List ℕ
without_some list None = list
without_some list (Some x) = without_one list x

-- and without each of these
abbrev pub without_all : List ℕ → List ℕ → List ℕ
without_all list [] = list
without_all list (x ∷ xs) = without_all (without_one list x) xs

abbrev pub is_zero : NodeOp → Bool
is_zero (Const n) = n == 0
is_zero op = false

-- an end that always goes to its second target
abbrev pub never_first : List FirmNode → Option FirmEnd → Bool
never_first nodes (Some (Branch n first second)) = is_zero (node_of nodes n.number).op
never_first nodes end = false

-- The block has another end, or none. A target that it no longer has loses it as a predecessor.
abbrev pub end_changed : Firm → ℕ → Option FirmEnd → Firm
end_changed g b end = unlinked (never_first g.nodes (end_of g b)) b (ends_with g b end) (without_all (targets (end_of g b)) (targets end))
