-- Nodes of which a block has at most one of a sort: those that begin its chain, those that take the memory of one node, and Phis of
-- memory.
use Rattle.std.specs.Prelude.{◌≡◌, ◌≢◌, ℕ, ◌<◌, Bool, true, false, nat_lt, not, ◌&&◌, ◌==◌, ◌+◌, [], ◌∷◌, if◌then◌else◌, List, length, Option, Some, None, unwrap_or, slice_get, slice_index, slice_index_or}
use Rattle.firm_rules.specs.declared.node.NodeId.{NodeId}
use Rattle.firm_rules.specs.declared.node.NodeOp.{NodeOp}
use Rattle.firm_rules.specs.declared.node.NodeOp.TheVariants.{ProjM}
use Rattle.firm_rules.specs.declared.node.FirmEnd.TheVariants.{Return}
use Rattle.firm_rules.specs.Graphs.{FirmNode, Firm, acts}
use Rattle.firm_rules.specs.Lookups.{node_at, preds_of, end_of, first_of}
use Rattle.ssa_core.specs.Walks.{Walk}
use Rattle.firm_rules.specs.Rules.{giver, acts_in, is_memory_phi, memory_phi, memory_into, memory_after, chain, last_of, ComesTo, MemoryFits}
use Rattle.firm_tables.specs.Nodes.{node_of}
use Rattle.firm_nodes.specs.Calls.{IsNode}
use Rattle.firm_verify.specs.declared.coming.Coming.{Coming}
use Rattle.firm_verify.specs.declared.coming.Coming.TheVariants.{Nothing, One, Many}
use Rattle.firm_verify.specs.declared.chains.Chains.{Chains}
use Rattle.firm_verify.specs.declared.memory.Sort.{Sort}
use Rattle.firm_verify.specs.declared.memory.Sort.TheVariants.{Begins, Follows, MemoryPhi}

abbrev pub is_memory_of : NodeOp → Bool
is_memory_of ProjM = true
is_memory_of op = false

-- what the node takes its memory from
abbrev pub taken_by : Firm → FirmNode → ℕ
taken_by g node = giver g (slice_index node.operands 0)

-- that is a node of its block that acts
abbrev pub is_within : Firm → FirmNode → Bool
is_within g node = acts_in node.block (node_at g (taken_by g node))

abbrev pub key : Firm → Sort → FirmNode → Option ℕ
key g Begins node = if acts node.op && not (is_within g node) then Some node.block else None
key g Follows node = if acts node.op && is_within g node then Some (taken_by g node) else None
key g MemoryPhi node = if is_memory_phi node.op then Some node.block else None

abbrev pub HasKey : Firm → Sort → ℕ → ℕ → Type 0
HasKey g sort n k = IsNode g n × (key g sort (node_of g.nodes n) ≡ Some k)

-- another one has its key
pub record IsRival (g : Firm) (sort : Sort) (n : ℕ) : Type 0 where
  pub other : ℕ
  pub differs : other ≢ n
  pub key_is : ℕ
  pub own : HasKey g sort n key_is
  pub others : HasKey g sort other key_is

-- by its key, each of the sort
pub record AreOwners (g : Firm) (sort : Sort) (owners : List (Option ℕ)) : Type 0 where
  pub own : (n k : ℕ) → HasKey g sort n k → slice_index_or owners k None ≡ Some n
  pub have : (n k : ℕ) → slice_index_or owners k None ≡ Some n → HasKey g sort n k

-- at the node's block the rule on memory is broken
abbrev pub BreaksMemory : Firm → ℕ → Type 0
BreaksMemory g n = IsNode g n × (MemoryFits g (node_of g.nodes n).block → ⊥)

-- ---- the ends of the chains

-- in its block no node takes what this one gives
pub record IsLast (g : Firm) (b n : ℕ) : Type 0 where
  pub acts_there : acts_in b (node_at g n) ≡ true
  pub unfollowed : (m : ℕ) → HasKey g Follows m n → ⊥

-- by its block, a last node
pub record AreLasts (g : Firm) (lasts : List (Option ℕ)) : Type 0 where
  pub own : (b n : ℕ) → IsLast g b n → slice_index_or lasts b None ≢ None
  pub have : (b n : ℕ) → slice_index_or lasts b None ≡ Some n → IsLast g b n

-- the number is lower than the one that was found
abbrev pub is_lower : Option ℕ → ℕ → Bool
is_lower None n = true
is_lower (Some k) n = nat_lt n k

-- of each block the first and the last node of its chain and its Phi of memory, if it has them, and the memory that comes first
pub record AreChains (g : Firm) (chains : Chains) : Type 0 where
  pub one_chain : (b n : ℕ) → acts_in b (node_at g n) ≡ true → (index : ℕ) × (slice_get (chain g b) index ≡ Some n)
  pub one_phi : (b n : ℕ) (node : FirmNode) → node_at g n ≡ Some node → node.block ≡ b → is_memory_phi node.op ≡ true → memory_phi g b ≡ Some n
  pub first_is : (b : ℕ) → slice_get (chain g b) 0 ≡ slice_index_or chains.firsts.items b None
  pub last_is : (b m : ℕ) → last_of m (chain g b) ≡ unwrap_or (slice_index_or chains.lasts.items b None) m
  pub phi_is : (b : ℕ) → memory_phi g b ≡ slice_index_or chains.phis.items b None
  pub start_is : memory_into g [] ≡ chains.start

-- ---- what comes along walks

-- a walk to the block brings the memory that this node gives
pub record Brings (g : Firm) (b m : ℕ) : Type 0 where
  pub walk : Walk
  pub comes : ComesTo g walk b
  pub is : memory_into g walk ≡ m

-- and one leaves the block with it
pub record Leaves (g : Firm) (b m : ℕ) : Type 0 where
  pub walk : Walk
  pub comes : ComesTo g walk b
  pub is : memory_after g walk ≡ m

pub record Two (P : ℕ → Type 0) : Type 0 where
  pub first : ℕ
  pub second : ℕ
  pub differs : first ≢ second
  pub is_first : P first
  pub is_second : P second

-- what is told is so
abbrev pub Told : (ℕ → Type 0) → Coming → Type 0
Told P Nothing = Unit {0}
Told P (One m) = P m
Told P Many = Two P

-- it is among what is told
abbrev pub Covers : Coming → ℕ → Type 0
Covers Nothing m = ⊥
Covers (One k) m = k ≡ m
Covers Many m = Unit {0}

abbrev pub Within : Coming → Coming → Type 0
Within part whole = (m : ℕ) → Covers part m → Covers whole m

-- of what comes, this node takes its place
abbrev pub through : Option ℕ → Coming → Coming
through last Nothing = Nothing
through (Some n) coming = One n
through None coming = coming

abbrev pub joined : Coming → Coming → Coming
joined Nothing second = second
joined Many second = Many
joined (One m) Nothing = One m
joined (One m) (One k) = if m == k then One m else Many
joined (One m) Many = Many

-- how often more can come
abbrev pub room : Coming → ℕ
room Nothing = 2
room (One m) = 1
room Many = 0

abbrev pub fits : Coming → ℕ → Bool
fits Nothing m = true
fits (One k) m = k == m
fits Many m = false

abbrev pub coming_at : List Coming → ℕ → Coming
coming_at coming b = slice_index_or coming b Nothing

-- what leaves a block
abbrev pub leaving : Chains → List Coming → ℕ → Coming
leaving chains coming b = through (slice_index_or chains.lasts.items b None) (coming_at coming b)

-- and what it brings to a later one
abbrev pub brought : Chains → List Coming → (from b : ℕ) → Coming
brought chains coming from b = through (slice_index_or chains.phis.items b None) (leaving chains coming from)

-- all that comes to a block from some others is told
abbrev pub Receives : Chains → List Coming → ℕ → List ℕ → Coming → Type 0
Receives chains coming b preds found = (index : ℕ) → index < length preds → Within (brought chains coming (slice_index preds index) b) found

-- each told memory comes along some walk, and that which comes first is told
pub record AreSeen (g : Firm) (coming : List Coming) : Type 0 where
  pub seen : (b : ℕ) → Told (Brings g b) (coming_at coming b)
  pub begun : Covers (coming_at coming (first_of g.order)) (memory_into g [])

-- what comes over an edge is told
abbrev pub IsClosedAt : Firm → Chains → List Coming → ℕ → Type 0
IsClosedAt g chains coming b = Receives chains coming b (preds_of g b) (coming_at coming b)

-- how often more can come to some blocks
abbrev pub rooms : List Coming → List ℕ → ℕ
rooms coming [] = 0
rooms coming (b ∷ blocks) = room (coming_at coming b) + rooms coming blocks

-- exactly what comes along walks is told
pub record AreComing (g : Firm) (coming : List Coming) : Type 0 where
  pub seen : (b : ℕ) → Told (Brings g b) (coming_at coming b)
  pub all : (b m : ℕ) → Brings g b m → Covers (coming_at coming b) m

-- ---- what takes memory

-- each walk brings it
abbrev pub BringsOnly : Firm → ℕ → ℕ → Type 0
BringsOnly g b m = (w : Walk) → ComesTo g w b → m ≡ memory_into g w

abbrev pub LeavesOnly : Firm → ℕ → ℕ → Type 0
LeavesOnly g b m = (w : Walk) → ComesTo g w b → m ≡ memory_after g w

abbrev pub FirstTakes : Firm → ℕ → Type 0
FirstTakes g b = (n : ℕ) → slice_get (chain g b) 0 ≡ Some n → BringsOnly g b (taken_by g (node_of g.nodes n))

abbrev pub EachTakes : Firm → (operands preds : List ℕ) → Type 0
EachTakes g operands preds = (index : ℕ) → index < length operands → index < length preds → LeavesOnly g (slice_index preds index) (giver g (slice_index operands index))

abbrev pub PhiTakes : Firm → ℕ → Type 0
PhiTakes g b = (n : ℕ) → memory_phi g b ≡ Some n → EachTakes g (node_of g.nodes n).operands (preds_of g b)

abbrev pub ReturnTakes : Firm → ℕ → Type 0
ReturnTakes g b = (m : NodeId) (value : Option NodeId) → end_of g b ≡ Some (Return m value) → LeavesOnly g b (giver g m.number)
