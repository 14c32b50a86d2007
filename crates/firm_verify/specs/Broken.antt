-- Which rule a graph breaks, and where. The rules at a node and at a block are those of `firm_rules`.
use Rattle.std.specs.Prelude.{◌≡◌, ◌≢◌, ℕ, ◌<◌, Option, Some, None}
use Rattle.firm_rules.specs.declared.node.NodeId.{NodeId}
use Rattle.firm_rules.specs.Graphs.{FirmNode, Firm, operands_of}
use Rattle.firm_rules.specs.Lookups.{node_at, IsBlock, end_of, first_of}
use Rattle.firm_rules.specs.Rules.{OperandsFit, EndFits, PhiIsFull, Leads, MemoryFits, FirstFits, OtherFits, IsEnteredAtHead, OperandsDefined, EndDefined, EdgesFit}

-- ---- the rules, each at all nodes and blocks

abbrev pub AtNodes : Firm → (ℕ → FirmNode → Type 0) → Type 0
AtNodes g rule = (n : ℕ) (node : FirmNode) → node_at g n ≡ Some node → rule n node

abbrev pub AtBlocks : Firm → (ℕ → Type 0) → Type 0
AtBlocks g rule = (b : ℕ) → IsBlock g b → rule b

abbrev pub Rule1 : Firm → Type 0
Rule1 g = AtNodes g (λ n node. OperandsFit g (operands_of node.op) node.operands) × AtBlocks g (λ b. EndFits g (end_of g b))

abbrev pub Rule2 : Firm → Type 0
Rule2 g = AtNodes g (λ n node. PhiIsFull g node)

abbrev pub Rule3 : Firm → Type 0
Rule3 g = AtNodes g (λ n node. Leads g n n → ⊥)

abbrev pub Rule4 : Firm → Type 0
Rule4 g = AtBlocks g (MemoryFits g)

-- as the first block, or as another one
abbrev pub PlaceFits : Firm → ℕ → Type 0
PlaceFits g b = (b ≡ first_of g.order → FirstFits g b) × (b ≢ first_of g.order → OtherFits g b)

abbrev pub Rule5 : Firm → Type 0
Rule5 g = AtBlocks g (PlaceFits g)

abbrev pub Rule6 : Firm → Type 0
Rule6 g = AtBlocks g (IsEnteredAtHead g)

abbrev pub Rule7 : Firm → Type 0
Rule7 g = AtNodes g (λ n node. OperandsDefined g node) × AtBlocks g (EndDefined g)

abbrev pub Rule8 : Firm → Type 0
Rule8 g = AtBlocks g (EdgesFit g)

-- ---- where one is broken

-- a node that is there in the block breaks a rule
abbrev pub BreaksAt : Firm → (ℕ → FirmNode → Type 0) → ℕ → ℕ → Type 0
BreaksAt g rule n b = (node : FirmNode) × (node_at g n ≡ Some node) × (node.block ≡ b) × (rule n node → ⊥)

-- by the number of the rule, the node, if it is one, and the block
pub data IsBroken (g : Firm) : ℕ → Option NodeId → ℕ → Type 0 where
  operands : {b : ℕ} → (n : NodeId) → BreaksAt g (λ n node. OperandsFit g (operands_of node.op) node.operands) n.number b → IsBroken g 1 (Some n) b
  end : {b : ℕ} → IsBlock g b → (EndFits g (end_of g b) → ⊥) → IsBroken g 1 None b
  phi : {b : ℕ} → (n : NodeId) → BreaksAt g (λ n node. PhiIsFull g node) n.number b → IsBroken g 2 (Some n) b
  cycle : {b : ℕ} → (n : NodeId) → BreaksAt g (λ n node. Leads g n n → ⊥) n.number b → IsBroken g 3 (Some n) b
  memory : {b : ℕ} → IsBlock g b → (MemoryFits g b → ⊥) → IsBroken g 4 None b
  place : {b : ℕ} → IsBlock g b → (PlaceFits g b → ⊥) → IsBroken g 5 None b
  head : {b : ℕ} → IsBlock g b → (IsEnteredAtHead g b → ⊥) → IsBroken g 6 None b
  operand : {b : ℕ} → (n : NodeId) → BreaksAt g (λ n node. OperandsDefined g node) n.number b → IsBroken g 7 (Some n) b
  end_use : {b : ℕ} → IsBlock g b → (EndDefined g b → ⊥) → IsBroken g 7 None b
  edges : {b : ℕ} → IsBlock g b → (EdgesFit g b → ⊥) → IsBroken g 8 None b

-- the rules below this one hold
pub record HoldBelow (g : Firm) (rule : ℕ) : Type 0 where
  pub rule1 : 1 < rule → Rule1 g
  pub rule2 : 2 < rule → Rule2 g
  pub rule3 : 3 < rule → Rule3 g
  pub rule4 : 4 < rule → Rule4 g
  pub rule5 : 5 < rule → Rule5 g
  pub rule6 : 6 < rule → Rule6 g
  pub rule7 : 7 < rule → Rule7 g

-- it is broken there, and is the first one that is broken
abbrev pub IsFirstBroken : Firm → ℕ → Option NodeId → ℕ → Type 0
IsFirstBroken g rule node b = IsBroken g rule node b × HoldBelow g rule

-- the rules at nodes
pub record HoldAtNodes (g : Firm) : Type 0 where
  pub rule1 : Rule1 g
  pub rule2 : Rule2 g
  pub rule3 : Rule3 g

-- all rules
pub record HoldAll (g : Firm) : Type 0 where
  pub at_nodes : HoldAtNodes g
  pub rule4 : Rule4 g
  pub rule5 : Rule5 g
  pub rule6 : Rule6 g
  pub rule7 : Rule7 g
  pub rule8 : Rule8 g
