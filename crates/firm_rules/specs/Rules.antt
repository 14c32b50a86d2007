-- The rules that graphs obey, each at a node or a block; a graph obeys a rule where it holds at all of them. Braun, Buchwald
-- and Zwinkau, Firm: A Graph-Based Intermediate Representation (2011); that memory forms one chain in each block, and rules 5
-- and 6 on the order, are this project's.
use Rattle.std.specs.Prelude.{◌≡◌, ◌≢◌, ℕ, zero, suc, ◌<◌, ◌≤◌, ◌⊎◌, Bool, true, false, ◌==◌, not, ◌&&◌, List, [], ◌∷◌, length, map, count_by, position, unwrap_or, MatchBool, Option, Some, None, slice_get}
use Rattle.ssa_core.specs.Walks.{Edge, Walk, end, IsWalk, Visits}
use Rattle.firm_rules.specs.declared.node.NodeId.{NodeId}
use Rattle.firm_rules.specs.declared.node.Mode.{Mode}
use Rattle.firm_rules.specs.declared.node.Mode.TheVariants.{Word, Memory, Tuple}
use Rattle.firm_rules.specs.declared.node.NodeOp.{NodeOp}
use Rattle.firm_rules.specs.declared.node.NodeOp.TheVariants.{Start, Param, Call, ProjM, Phi}
use Rattle.firm_rules.specs.declared.node.FirmEnd.{FirmEnd}
use Rattle.firm_rules.specs.declared.node.FirmEnd.TheVariants.{Jump, Branch, Return}
use Rattle.firm_rules.specs.Graphs.{FirmNode, Firm, Program, Operands, exactly, memory_and_words, all_of, operands_of, acts}
use Rattle.firm_rules.specs.Lookups.{node_at, mode_at, first_of, rank, IsBlock, preds_of, end_of, targets, shape}

abbrev pub is_phi : NodeOp → Bool
is_phi (Phi mode) = true
is_phi op = false

-- ---- 1: the operands of each node but their number for a Phi, and those of each end, are as the table says; and each block
-- has an end

abbrev pub HaveMode : Firm → Mode → List ℕ → Type 0
HaveMode g mode operands = (index n : ℕ) → slice_get operands index ≡ Some n → mode_at g n ≡ Some mode

abbrev pub OperandsFit : Firm → Operands → List ℕ → Type 0
OperandsFit g (exactly modes) operands = map (mode_at g) operands ≡ map Some modes
OperandsFit g memory_and_words [] = ⊥
OperandsFit g memory_and_words (m ∷ arguments) = (mode_at g m ≡ Some Memory) × HaveMode g Word arguments
OperandsFit g (all_of mode) operands = (mode ≢ Tuple) × HaveMode g mode operands

abbrev pub EndFits : Firm → Option FirmEnd → Type 0
EndFits g (Some (Jump b)) = Unit {0}
EndFits g (Some (Branch n first second)) = mode_at g n.number ≡ Some Word
EndFits g (Some (Return m (Some value))) = (mode_at g m.number ≡ Some Memory) × (mode_at g value.number ≡ Some Word)
EndFits g (Some (Return m None)) = mode_at g m.number ≡ Some Memory
EndFits g None = ⊥

-- ---- 2: a Phi has one operand for each predecessor of its block, that for the first one first

abbrev pub PhiIsFull : Firm → FirmNode → Type 0
PhiIsFull g node = is_phi node.op ≡ true → length node.operands ≡ length (preds_of g node.block)

-- ---- 3: each cycle of operands passes a Phi

-- from a node that is no Phi to one of its operands
pub record IsOperand (g : Firm) (n operand : ℕ) : Type 0 where
  pub node : FirmNode
  pub is : node_at g n ≡ Some node
  pub no_phi : is_phi node.op ≡ false
  pub index : ℕ
  pub at : slice_get node.operands index ≡ Some operand

-- over one or more such steps
pub data Leads (g : Firm) : ℕ → ℕ → Type 0 where
  at_once : {n last : ℕ} → IsOperand g n last → Leads g n last
  onward : {n last : ℕ} → (next : ℕ) → IsOperand g n next → Leads g next last → Leads g n last

-- ---- 4: in each block the nodes that take memory form one chain, in which each but the first takes what the one before gives;
-- the first, and where there is none the block's end and its successors, take the memory that comes along the walk. A block has at
-- most one Phi of memory, which is what it sees. This asks nothing of a block from which no path leads to what takes memory.

-- the node that gives a memory; that of a tuple is given by the tuple
abbrev pub giver_by : NodeOp → List ℕ → ℕ → ℕ
giver_by ProjM (t ∷ rest) m = t
giver_by op operands m = m

abbrev pub giver_in : Option FirmNode → ℕ → ℕ
giver_in (Some node) m = giver_by node.op node.operands m
giver_in None m = m

abbrev pub giver : Firm → ℕ → ℕ
giver g m = giver_in (node_at g m) m

-- the number of the first node that is there and passes a test
abbrev pub first_node : Firm → (FirmNode → Bool) → Option ℕ
first_node g test = position (λ node. node.there && test node) g.nodes

abbrev pub acts_in : ℕ → Option FirmNode → Bool
acts_in b (Some node) = (node.block == b) && acts node.op
acts_in b None = false

-- the memory that a node with these operands takes is given by a node that passes a test
abbrev pub takes_from : Firm → (ℕ → Bool) → List ℕ → Bool
takes_from g test [] = false
takes_from g test (m ∷ rest) = test (giver g m)

-- from a node on, each node that takes what the one before gives; they are no more than the limit
abbrev pub chain_from : Firm → ℕ → ℕ → Option ℕ → List ℕ
chain_from g b zero next = []
chain_from g b (suc limit) None = []
chain_from g b (suc limit) (Some n) =
    n ∷ chain_from g b limit (first_node g (λ node. acts_in b (Some node) && takes_from g (λ m. m == n) node.operands))

-- the nodes of a block that act, in the order of their chain, which begins with one that takes what no such node of the block gives
abbrev pub chain : Firm → ℕ → List ℕ
chain g b = chain_from g b (length g.nodes)
    (first_node g (λ node. acts_in b (Some node) && takes_from g (λ m. not (acts_in b (node_at g m))) node.operands))

abbrev pub is_start : NodeOp → Bool
is_start Start = true
is_start op = false

abbrev pub is_memory_phi : NodeOp → Bool
is_memory_phi (Phi Memory) = true
is_memory_phi op = false

abbrev pub memory_phi : Firm → ℕ → Option ℕ
memory_phi g b = first_node g (λ node. (node.block == b) && is_memory_phi node.op)

abbrev pub last_of : ℕ → List ℕ → ℕ
last_of n [] = n
last_of n (m ∷ ms) = last_of m ms

-- The node that gives the memory which the last block of a walk sees: `Start`, or the block's Phi, or what gives the memory that
-- the block before it leaves.
unfoldable pub memory_into : Firm → Walk → ℕ
memory_into g [] = unwrap_or (first_node g (λ node. is_start node.op)) 0
memory_into g (e ∷ w) = unwrap_or (memory_phi g e.into) (last_of (memory_into g w) (chain g (end (shape g) w)))

-- the node that gives the memory which it leaves
abbrev pub memory_after : Firm → Walk → ℕ
memory_after g w = last_of (memory_into g w) (chain g (end (shape g) w))

abbrev pub ComesTo : Firm → Walk → ℕ → Type 0
ComesTo g w b = IsWalk (shape g) w × (end (shape g) w ≡ b)

pub record MemoryFits (g : Firm) (b : ℕ) : Type 0 where
  pub one_chain : (n : ℕ) → acts_in b (node_at g n) ≡ true → (index : ℕ) × (slice_get (chain g b) index ≡ Some n)
  pub first_takes : (n : ℕ) (rest : List ℕ) (node : FirmNode) (m : ℕ) (others : List ℕ) (w : Walk) → chain g b ≡ n ∷ rest
      → node_at g n ≡ Some node → node.operands ≡ m ∷ others → ComesTo g w b → giver g m ≡ memory_into g w
  pub one_phi : (n : ℕ) (node : FirmNode) → node_at g n ≡ Some node → node.block ≡ b → is_memory_phi node.op ≡ true → memory_phi g b ≡ Some n
  pub phi_takes : (n : ℕ) (node : FirmNode) (e : Edge) (m : ℕ) (w : Walk) → memory_phi g b ≡ Some n → node_at g n ≡ Some node
      → slice_get node.operands e.place ≡ Some m → ComesTo g (e ∷ w) b → giver g m ≡ memory_after g w
  pub return_takes : (m : NodeId) (value : Option NodeId) (w : Walk) → end_of g b ≡ Some (Return m value) → ComesTo g w b
      → giver g m.number ≡ memory_after g w

-- ---- 5: the first block has no predecessor and no Phi, and alone holds `Start`; each other block has a predecessor earlier in
-- the order

-- the node is a `Start` of the block
abbrev pub IsStartOf : Firm → ℕ → ℕ → Type 0
IsStartOf g b n = (node : FirmNode) × (node_at g n ≡ Some node) × (node.op ≡ Start) × (node.block ≡ b)

abbrev pub IsEdge : Firm → ℕ → ℕ → Type 0
IsEdge g from to = (index : ℕ) × (slice_get (preds_of g to) index ≡ Some from)

pub record FirstFits (g : Firm) (b : ℕ) : Type 0 where
  pub no_preds : preds_of g b ≡ []
  pub no_phi : (n : ℕ) (node : FirmNode) → node_at g n ≡ Some node → node.block ≡ b → is_phi node.op ≡ false
  pub start : (n : ℕ) × IsStartOf g b n × ((m : ℕ) → IsStartOf g b m → m ≡ n)

pub record OtherFits (g : Firm) (b : ℕ) : Type 0 where
  pub no_start : (n : ℕ) → IsStartOf g b n → ⊥
  pub entered_earlier : (pred : ℕ) × IsEdge g pred b × (rank g pred < rank g b)

-- ---- 6: the blocks from the target of an edge back to its source are entered from outside by the target alone

abbrev pub IsEnteredAtHead : Firm → ℕ → Type 0
IsEnteredAtHead g last = (head from to : ℕ) → IsEdge g last head → rank g head ≤ rank g last → IsEdge g from to
    → (rank g from < rank g head) ⊎ (rank g last < rank g from) → rank g head < rank g to → rank g to ≤ rank g last → ⊥

-- ---- 7: each operand is defined on every walk to its use; that of a Phi to the end of the predecessor

abbrev pub IsDefined : Firm → ℕ → ℕ → Type 0
IsDefined g n b = (node : FirmNode) × (node_at g n ≡ Some node) × ((w : Walk) → ComesTo g w b → Visits (shape g) w node.block)

-- the nodes that an end uses
abbrev pub uses : Option FirmEnd → List ℕ
uses (Some (Branch n first second)) = n.number ∷ []
uses (Some (Return m (Some value))) = m.number ∷ value.number ∷ []
uses (Some (Return m None)) = m.number ∷ []
uses end = []

-- where the operand at an index has to be defined
abbrev pub IsUsed : Firm → FirmNode → ℕ → ℕ → Type 0
IsUsed g node index b = MatchBool (is_phi node.op) (slice_get (preds_of g node.block) index ≡ Some b) (node.block ≡ b)

abbrev pub OperandsDefined : Firm → FirmNode → Type 0
OperandsDefined g node = (index operand b : ℕ) → slice_get node.operands index ≡ Some operand → IsUsed g node index b → IsDefined g operand b

abbrev pub EndDefined : Firm → ℕ → Type 0
EndDefined g b = (index operand : ℕ) → slice_get (uses (end_of g b)) index ≡ Some operand → IsDefined g operand b

-- ---- 8: the lists of predecessors are exactly the edges of the ends

pub record EdgesFit (g : Firm) (b : ℕ) : Type 0 where
  pub alike : (to : ℕ) → IsBlock g to → count_by (λ c. c == b) (preds_of g to) ≡ count_by (λ c. c == to) (targets (end_of g b))
  pub from_blocks : (index from : ℕ) → slice_get (preds_of g b) index ≡ Some from → IsBlock g from
  pub to_blocks : (index to : ℕ) → slice_get (targets (end_of g b)) index ≡ Some to → IsBlock g to

-- ---- all of them

-- at a node: rules 1, 2, 3 and 7
pub record NodeObeys (g : Firm) (n : ℕ) (node : FirmNode) : Type 0 where
  pub operands_fit : OperandsFit g (operands_of node.op) node.operands
  pub phi_is_full : PhiIsFull g node
  pub no_cycle : Leads g n n → ⊥
  pub operands_defined : OperandsDefined g node

-- at a block: rules 1, 4, 5, 6, 7 and 8
pub record BlockObeys (g : Firm) (b : ℕ) : Type 0 where
  pub end_fits : EndFits g (end_of g b)
  pub memory_fits : MemoryFits g b
  pub first_fits : b ≡ first_of g.order → FirstFits g b
  pub other_fits : b ≢ first_of g.order → OtherFits g b
  pub entered_at_head : IsEnteredAtHead g b
  pub end_defined : EndDefined g b
  pub edges_fit : EdgesFit g b

pub record Obeys (g : Firm) : Type 0 where
  pub some_block : 0 < length g.order
  pub nodes : (n : ℕ) (node : FirmNode) → node_at g n ≡ Some node → NodeObeys g n node
  pub blocks : (b : ℕ) → IsBlock g b → BlockObeys g b

-- What no rule asks, but holds of a graph that was made by adding blocks and nodes: each block of the order is one, once; a node that is
-- there stands in one of them and is its own; a parameter has an argument; and what is not in the order has no edges.
pub record IsWhole (g : Firm) : Type 0 where
  pub in_range : (index b : ℕ) → slice_get g.order index ≡ Some b → (b < length g.blocks) × (rank g b ≡ index)
  pub stands : (n : ℕ) (node : FirmNode) → node_at g n ≡ Some node → IsBlock g node.block × (node.current ≡ n)
  pub argument : (n i : ℕ) (node : FirmNode) → node_at g n ≡ Some node → node.op ≡ Param i → i < g.params
  pub no_edges : (b : ℕ) → (IsBlock g b → ⊥) → (preds_of g b ≡ []) × (end_of g b ≡ None)

-- ---- of programs, and of Phis

-- the call names a graph of the program, with as many arguments as that graph has parameters
abbrev pub CallFits : Program → FirmNode → Type 0
CallFits p node = (f : ℕ) → node.op ≡ Call f → (callee : Firm) × (slice_get p.graphs f ≡ Some callee) × (length node.operands ≡ suc callee.params)

-- closed: each call fits, and no graph has more than 8 parameters
pub record IsClosed (p : Program) : Type 0 where
  pub calls : (index : ℕ) (g : Firm) (n : ℕ) (node : FirmNode) → slice_get p.graphs index ≡ Some g → node_at g n ≡ Some node → CallFits p node
  pub few : (index : ℕ) (g : Firm) → slice_get p.graphs index ≡ Some g → g.params ≤ 8

-- The operands of a Phi are itself and at most one other value; so it may have none, or itself alone. Braun, Buchwald, Hack, Leißa,
-- Mallon and Zwinkau, Simple and Efficient Construction of Static Single Assignment Form (2013), 2.2.
abbrev pub HasOnly : FirmNode → ℕ → ℕ → Type 0
HasOnly node n other = (index operand : ℕ) → slice_get node.operands index ≡ Some operand → (operand ≡ n) ⊎ (operand ≡ other)

abbrev pub IsTrivial : Firm → ℕ → Type 0
IsTrivial g n = (node : FirmNode) × (node_at g n ≡ Some node) × (is_phi node.op ≡ true) × ((other : ℕ) × HasOnly node n other)
