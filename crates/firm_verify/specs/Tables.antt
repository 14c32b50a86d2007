-- What stands in the tables by which a graph is tested.
use Rattle.std.specs.Prelude.{◌≡◌, ◌≢◌, ◌<◌, ◌≤◌, ◌+◌, ℕ, Bool, if◌then◌else◌, ◌⊎◌, List, [], ◌∷◌, length, map, Option, Some, None, slice_index, slice_index_or}
use Rattle.firm_uses.specs.Counts.{times}
use Rattle.firm_rules.specs.declared.node.NodeId.{NodeId}
use Rattle.firm_rules.specs.declared.node.NodeOp.{NodeOp}
use Rattle.firm_rules.specs.declared.node.Mode.{Mode}
use Rattle.firm_rules.specs.declared.node.Mode.TheVariants.{Word, Memory, Tuple}
use Rattle.firm_rules.specs.declared.node.FirmEnd.{FirmEnd}
use Rattle.firm_rules.specs.declared.node.FirmEnd.TheVariants.{Jump, Branch, Return}
use Rattle.firm_rules.specs.Graphs.{Firm, Operands, exactly, memory_and_words, all_of}
use Rattle.firm_rules.specs.Lookups.{mode_at, rank, IsBlock, preds_of, end_of, targets}
use Rattle.firm_tables.specs.Nodes.{node_of, stands_in}
use Rattle.firm_nodes.specs.Calls.{IsNode}

-- the nodes that are there
pub record AreNodes (g : Firm) (nodes : List ℕ) : Type 0 where
  pub are_there : (n : ℕ) → 0 < times n nodes → IsNode g n
  pub all : (n : ℕ) → IsNode g n → 0 < times n nodes

-- those that are there in a block, each once
abbrev pub AreMembers : Firm → ℕ → List ℕ → Type 0
AreMembers g b nodes = (n : ℕ) → times n nodes ≡ (if stands_in (node_of g.nodes n) b then 1 else 0)

-- the mode of each node by its number
abbrev pub AreModes : Firm → List (Option Mode) → Type 0
AreModes g modes = (n : ℕ) → slice_index_or modes n None ≡ mode_at g n

-- the place of each block in the order by its number; that of another number is the length of the order
abbrev pub AreRanks : Firm → List ℕ → Type 0
AreRanks g ranks = (b : ℕ) → slice_index_or ranks b (length g.order) ≡ rank g b

-- ---- rule 1, by what gives the mode of a number

abbrev pub HaveFrom : (ℕ → Option Mode) → Mode → ℕ → List ℕ → Type 0
HaveFrom look mode from operands = (index : ℕ) → from ≤ index → index < length operands → look (slice_index operands index) ≡ Some mode

abbrev pub FitBy : (ℕ → Option Mode) → Operands → List ℕ → Type 0
FitBy look (exactly modes) operands = map look operands ≡ map Some modes
FitBy look memory_and_words [] = ⊥
FitBy look memory_and_words (m ∷ arguments) = (look m ≡ Some Memory) × HaveFrom look Word 1 (m ∷ arguments)
FitBy look (all_of mode) operands = (mode ≢ Tuple) × HaveFrom look mode 0 operands

abbrev pub ValueFitsBy : (ℕ → Option Mode) → Option NodeId → Type 0
ValueFitsBy look (Some value) = look value.number ≡ Some Word
ValueFitsBy look None = Unit {0}

abbrev pub EndFitsBy : (ℕ → Option Mode) → Option FirmEnd → Type 0
EndFitsBy look (Some (Jump b)) = Unit {0}
EndFitsBy look (Some (Branch n first second)) = look n.number ≡ Some Word
EndFitsBy look (Some (Return m value)) = (look m.number ≡ Some Memory) × ValueFitsBy look value
EndFitsBy look None = ⊥

-- ---- rule 5

-- how many of some nodes have an operation that passes a test
abbrev pub passing : Firm → (NodeOp → Bool) → List ℕ → ℕ
passing g test [] = 0
passing g test (n ∷ nodes) = (if test (node_of g.nodes n).op then 1 else 0) + passing g test nodes

-- one of some blocks stands earlier in the order than the place
abbrev pub HasEarlier : Firm → ℕ → List ℕ → Type 0
HasEarlier g place blocks = (index : ℕ) × (index < length blocks) × (rank g (slice_index blocks index) < place)

-- ---- rule 8

abbrev pub AreBlocks : Firm → List ℕ → Type 0
AreBlocks g blocks = (index : ℕ) → index < length blocks → IsBlock g (slice_index blocks index)

pub record EdgesWithin (g : Firm) (b : ℕ) : Type 0 where
  pub preds : AreBlocks g (preds_of g b)
  pub ends : AreBlocks g (targets (end_of g b))

-- the block is as often a predecessor of each of its targets as it leads there
abbrev pub TargetsAlike : Firm → ℕ → Type 0
TargetsAlike g b = (to : ℕ) → 0 < times to (targets (end_of g b)) → times b (preds_of g to) ≡ times to (targets (end_of g b))

-- each predecessor leads to the block
abbrev pub PredsAlike : Firm → ℕ → Type 0
PredsAlike g to = (from : ℕ) → 0 < times from (preds_of g to) → 0 < times to (targets (end_of g from))

-- a block that is a predecessor of one to which it does not lead
abbrev pub IsUnlike : Firm → ℕ → Type 0
IsUnlike g from = IsBlock g from × ((to : ℕ) × (IsBlock g to × ((0 < times from (preds_of g to)) × (times to (targets (end_of g from)) ≡ 0))))

-- ---- rule 6, by places in the order

abbrev pub HasOutside : Firm → (low high : ℕ) → List ℕ → Type 0
HasOutside g low high blocks = (index : ℕ) × ((index < length blocks) × ((rank g (slice_index blocks index) < low) ⊎ (high < rank g (slice_index blocks index))))

-- a block behind the lower place up to the higher one is entered from outside of the two
abbrev pub HasSideEntry : Firm → (low high : ℕ) → Type 0
HasSideEntry g low high = (place : ℕ) × ((low ≤ place) × ((place < high) × HasOutside g low high (preds_of g (slice_index g.order (place + 1)))))

pub record IsBadLoop (g : Firm) (head last : ℕ) : Type 0 where
  pub is_block : IsBlock g last
  pub edge : 0 < times last (preds_of g head)
  pub back : rank g head ≤ rank g last
  pub side : HasSideEntry g (rank g head) (rank g last)

abbrev pub NoBadLoop : Firm → ℕ → Type 0
NoBadLoop g head = (last : ℕ) → IsBadLoop g head last → ⊥
